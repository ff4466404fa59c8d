-- After the stores of an admission the station has the circuit more, at its place, and the rest of the area stands: the
-- circuits behind that place are one place further on, and no word before it or past the circuits is stored to, but for
-- their count.
-- Assumes nothing.
use mathlib.Core.Path.{◌≡◌, refl, sym, ap, ap₂, subst, ◌∙◌}
use mathlib.Core.List.{List, ◌∷◌}
use mathlib.Core.Logic.{◌≢◌}
use Prim.Native.Nat.{ℕ, zero, suc, ◌+◌, ◌*◌, ◌-◌, ◌≤◌, ◌<◌}
use native.Mathlib.Nat.{suc-add}
use native.Mathlib.Numerals.{add-one}
use native.Mathlib.Omega.{arith}
use lib.ListN.{length, get_or, set, length-set}
use lib.Seq.{sets, length-sets, get_or-set_same, get_or-set_other}
use borrow.Author.Tests.{lt-ltb, le-ltb}
use Rattle.network.specs.Limits.{most_links, most_path_links}
use Rattle.network.specs.Lists.{from}
use Rattle.network.proofs.Tests.{by_eq, by_lt}
use Rattle.area.specs.Layout.{area_words, circuit_words, most_circuits}
use Rattle.area.specs.Station.{Circuit, place, circuit_of, words_in, circuit_at, circuits, held_in, station}
use Rattle.area.specs.Formed.{UnusedClear}
use Rattle.area.specs.Held.{number_at, place_of}
use Rattle.area.specs.Moves.{words_of, opened, added, with_circuit, Untouched}
use Rattle.area.specs.Order.{placed}
use Rattle.area.proofs.Places.{place_of_most, below_place, at_place}
use Rattle.area.proofs.Sets.{sets_before, sets_in, sets_past}
use Rattle.area.proofs.StationWords.{circuit_same, clear_same, circuits_alike, circuit_read, words_left, words_of_length, table_untouched}
use Rattle.area.proofs.WordsAt.{words_at_lem}

-- ---- a gap opened
opened_long : (w : List ℕ) (a n : ℕ) → length (opened w a n) ≡ length w
unfolding opened
opened_long w a zero = refl
opened_long w a (suc n) =
    opened_long (set w (a + n + circuit_words) (get_or w (a + n) 0)) a n
    ∙ length-set w (a + n + circuit_words) (get_or w (a + n) 0)

opened_before : (w : List ℕ) (a n i : ℕ) → i < a + circuit_words → get_or (opened w a n) i 0 ≡ get_or w i 0
unfolding opened
opened_before w a zero i low = refl
opened_before w a (suc n) i low =
    opened_before (set w (a + n + circuit_words) (get_or w (a + n) 0)) a n i low
    ∙ get_or-set_other w (a + n + circuit_words) i (get_or w (a + n) 0) 0 (omega arith)

opened_past : (w : List ℕ) (a n i : ℕ) → a + n + circuit_words ≤ i → get_or (opened w a n) i 0 ≡ get_or w i 0
unfolding opened
opened_past w a zero i high = refl
opened_past w a (suc n) i high =
    opened_past (set w (a + n + circuit_words) (get_or w (a + n) 0)) a n i (omega arith)
    ∙ get_or-set_other w (a + n + circuit_words) i (get_or w (a + n) 0) 0 (omega arith)

-- a word that overwrites one is read before it is overwritten itself
opened_in : (w : List ℕ) (a n i : ℕ) → a + n + circuit_words ≤ length w → a ≤ i → i < a + n
    → get_or (opened w a n) (i + circuit_words) 0 ≡ get_or w i 0
unfolding opened
opened_in w a zero i fits above low = absurd (omega arith)
opened_in w a (suc n) i fits above low =
    by_eq i (a + n)
    (λ e.
    opened_past (set w (a + n + circuit_words) (get_or w (a + n) 0)) a n (i + circuit_words) (omega arith)
    ∙ rw e (get_or-set_same w (a + n + circuit_words) (get_or w (a + n) 0) 0 (omega arith)))
    (λ e.
    opened_in (set w (a + n + circuit_words) (get_or w (a + n) 0)) a n i (rw length-set (omega arith)) above (omega arith)
    ∙ get_or-set_other w (a + n + circuit_words) i (get_or w (a + n) 0) 0 (omega arith))

-- ---- a circuit more
module _ (w : List ℕ) (j : ℕ) (c : Circuit) where
  -- the area with the gap, and with the circuit's words in it
  abbrev gap : List ℕ
  gap = opened w (place j) (circuit_words * (get_or w 2 0 - j))

  abbrev put : List ℕ
  put = sets gap (place j) (words_of c)

  put_long : length put ≡ length w
  put_long = length-sets gap (place j) (words_of c) ∙ opened_long w (place j) (circuit_words * (get_or w 2 0 - j))

  pub added_long : length (added w j c) ≡ length w
  unfolding added
  added_long = length-set put 2 _ ∙ put_long

  added_before : (i : ℕ) → i < place j → i ≢ 2 → get_or (added w j c) i 0 ≡ get_or w i 0
  unfolding added
  added_before i low other =
      get_or-set_other put 2 i _ 0 other
      ∙ sets_before gap (place j) (words_of c) i low
      ∙ opened_before w (place j) (circuit_words * (get_or w 2 0 - j)) i (omega arith)

  added_count : 3 ≤ length w → get_or (added w j c) 2 0 ≡ suc (get_or w 2 0)
  unfolding added
  added_count fits = get_or-set_same put 2 (get_or w 2 0 + 1) 0 (rw put_long (omega arith)) ∙ add-one (get_or w 2 0)

  module _ (short : length c.path ≤ most_path_links) where
    -- at its place stand the circuit's words
    added_in : (i : ℕ) → place j + circuit_words ≤ length w → i < circuit_words
        → get_or (added w j c) (place j + i) 0 ≡ get_or (words_of c) i 0
    unfolding added
    added_in i fits low =
        get_or-set_other put 2 (place j + i) _ 0 (omega arith)
        ∙ sets_in gap (place j) (words_of c) i
        (rw (words_of_length c short, opened_long w (place j) (circuit_words * (get_or w 2 0 - j))) fits)
        (rw (words_of_length c short) low)

    -- a word past them
    added_high : (i : ℕ) → place j + circuit_words ≤ i → get_or (added w j c) i 0 ≡ get_or gap i 0
    unfolding added
    added_high i high =
        get_or-set_other put 2 i _ 0 (omega arith) ∙ sets_past gap (place j) (words_of c) i (rw (words_of_length c short) high)

    module _ (most : j ≤ get_or w 2 0) where
      -- from its place on, each word stands a circuit further on
      added_after : (i : ℕ) → place (suc (get_or w 2 0)) ≤ length w → place j ≤ i → i < place (get_or w 2 0)
          → get_or (added w j c) (i + circuit_words) 0 ≡ get_or w i 0
      added_after i fits above low =
          added_high (i + circuit_words) (omega arith)
          ∙ opened_in w (place j) (circuit_words * (get_or w 2 0 - j)) i (omega arith) above (omega arith)

      added_past : (i : ℕ) → place (suc (get_or w 2 0)) ≤ i → get_or (added w j c) i 0 ≡ get_or w i 0
      added_past i high =
          added_high i (omega arith) ∙ opened_past w (place j) (circuit_words * (get_or w 2 0 - j)) i (omega arith)

-- an admission leaves n, m, the links and the words past the circuits
pub added_untouched : (w : List ℕ) (j : ℕ) (c : Circuit) → get_or w 2 0 < most_circuits → j ≤ get_or w 2 0
    → length c.path ≤ most_path_links → Untouched w (added w j c)
added_untouched w j c room most short =
    record {
      nodes = added_before w j c 0 (omega arith) (omega arith);
      links = added_before w j c 1 (omega arith) (omega arith);
      table = λ i above low. added_before w j c i (omega arith) (omega arith);
      past = λ i high. added_past w j c short most i (omega arith);
      long = added_long w j c;
    }

-- ---- the circuits after these stores
module _ (w : List ℕ) (j : ℕ) (c : Circuit) (fits : place (suc (get_or w 2 0)) ≤ length w)
    (short : length c.path ≤ most_path_links) (most : j ≤ get_or w 2 0) where
  -- the circuit at a place before it stays
  before_words : (k i : ℕ) → k < j → i < circuit_words → get_or (added w j c) (place k + i) 0 ≡ get_or w (place k + i) 0
  before_words k i low small = added_before w j c (place k + i) (omega arith) (omega arith)

  -- the circuit at a place from there on stands one place further on
  after_words : (k i : ℕ) → j ≤ k → k < get_or w 2 0 → i < circuit_words
      → get_or (added w j c) (place (suc k) + i) 0 ≡ get_or w (place k + i) 0
  after_words k i above low small =
      let further : place (suc k) + i ≡ place k + i + circuit_words = omega arith in
      ap (λ (m : ℕ). get_or (added w j c) m 0) further
      ∙ added_after w j c short most (place k + i) fits (omega arith) (omega arith)

  -- at its place the new one is read
  new_words : (i : ℕ) → i < circuit_words → get_or (words_in (added w j c) j) i 0 ≡ get_or (words_of c) i 0
  new_words i low = words_at_lem (added w j c) (place j) circuit_words i low ∙ added_in w j c short i (omega arith) low

  new : circuit_at (added w j c) j ≡ c
  new = circuit_read (words_in (added w j c) j) c λ i low. new_words i (omega arith)

  behind : (n : ℕ) → j + n ≡ get_or w 2 0 → from (circuit_at (added w j c)) (suc j) n ≡ from (circuit_at w) j n
  behind n e =
      circuits_alike w (added w j c) j (suc j) n
      λ k i low small. rw (suc-add j k) (after_words (j + k) i (omega arith) (omega arith) small)

  -- it stands behind the circuits with a lower number
  module _ (lower : (i : ℕ) → i < j → number_at w i < c.number) (here : j < get_or w 2 0 → c.number ≤ number_at w j) where
    placed_here : (n : ℕ) → j + n ≡ get_or w 2 0 → placed c (from (circuit_at w) j n) ≡ c ∷ from (circuit_at w) j n
    unfolding circuit_of
    placed_here zero e = refl
    placed_here (suc n) e = rw (le-ltb (number_at w j) c.number (here (omega arith)))

    held_here : (n : ℕ) → j + n ≡ get_or w 2 0 → from (circuit_at (added w j c)) j (suc n) ≡ placed c (from (circuit_at w) j n)
    held_here n e = ap₂ ◌∷◌ new (behind n e) ∙ sym (placed_here n e)

    held_from : (n i : ℕ) → i ≤ j → i + n ≡ get_or w 2 0
        → from (circuit_at (added w j c)) i (suc n) ≡ placed c (from (circuit_at w) i n)
    unfolding circuit_of
    held_from zero i low e =
        let last : i ≡ j = omega arith in
        rw last (held_here zero (omega arith))
    held_from (suc n) i low e =
        by_eq i j (λ q. rw q (held_here (suc n) (omega arith)))
        (λ q.
        rw (lt-ltb (number_at w i) c.number (lower i (omega arith)))
        (ap₂ ◌∷◌ (circuit_same w (added w j c) i i λ k small. before_words i k (omega arith) small)
        (held_from n (suc i) (omega arith) (omega arith))))

  -- the unused path words of the new circuit are 0, and so are those of every other if they were
  new_clear : UnusedClear (words_in (added w j c) j)
  new_clear i above low =
      let links : get_or (words_in (added w j c) j) 2 0 ≡ length c.path = new_words 2 (omega arith) in
      new_words i low ∙ words_left c i (omega (arith, links, above))

  module _ (clear : (k : ℕ) → k < get_or w 2 0 → UnusedClear (words_in w k)) where
    behind_clear : (k : ℕ) → k < suc (get_or w 2 0) → j < k → UnusedClear (words_in (added w j c) k)
    behind_clear zero low above = absurd (omega arith)
    behind_clear (suc k) low above =
        clear_same w (added w j c) k (suc k) (λ i small. after_words k i (omega arith) (omega arith) small)
        (clear k (omega arith))

    all_clear : (k : ℕ) → k < suc (get_or w 2 0) → UnusedClear (words_in (added w j c) k)
    all_clear k low =
        by_lt k j
        (λ less. clear_same w (added w j c) k k (λ i small. before_words k i less small) (clear k (omega arith)))
        (λ above.
        by_eq k j (λ e. subst (λ (m : ℕ). UnusedClear (words_in (added w j c) m)) (sym e) new_clear)
        (λ e. behind_clear k low (omega arith)))

-- the area with a circuit more is the station with that circuit, at its place
pub added_station : (w : List ℕ) (c : Circuit) → area_words ≤ length w → get_or w 1 0 ≤ most_links → get_or w 2 0 < most_circuits
    → length c.path ≤ most_path_links → station (added w (place_of w c.number) c) ≡ with_circuit (station w) c
unfolding station
added_station w c long few room short =
    λ t. record { table = table_untouched w (added w j c) (added_untouched w j c room most short) few t; held = held t }
  where
    j : ℕ
    j = place_of w c.number

    most : j ≤ get_or w 2 0
    most = place_of_most w c.number

    held : circuits (added w j c) (get_or (added w j c) 2 0) ≡ placed c (circuits w (get_or w 2 0))
    held =
        rw (added_count w j c (omega arith))
        (held_from w j c (omega arith) short most (below_place w c.number) (at_place w c.number) (get_or w 2 0) 0
        (omega arith) (omega arith))

-- and the unused path words of its circuits are 0 if those of the held ones were
pub added_clear : (w : List ℕ) (j : ℕ) (c : Circuit) → area_words ≤ length w → get_or w 2 0 < most_circuits
    → length c.path ≤ most_path_links → j ≤ held_in w
    → ((k : ℕ) → k < held_in w → UnusedClear (words_in w k))
    → (k : ℕ) → k < held_in (added w j c) → UnusedClear (words_in (added w j c) k)
added_clear w j c long room short most clear k low =
    all_clear w j c (omega arith) short most clear k (omega (arith, added_count w j c (omega arith)))
