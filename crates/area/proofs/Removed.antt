-- After the stores of a release the station is without the circuit, and the rest of the area stands: the circuits behind
-- it move up by one place, and no word before it or past the circuits is stored to, but for their count.
-- Assumes nothing.
use mathlib.Core.Path.{◌≡◌, refl, sym, ap, ap₂, ◌∙◌}
use mathlib.Core.Bool.{true}
use mathlib.Core.List.{List, ◌∷◌}
use mathlib.Core.Logic.{◌≢◌}
use Prim.Native.Nat.{ℕ, zero, suc, ◌+◌, ◌*◌, ◌-◌, ◌≤◌, ◌<◌}
use native.Mathlib.Nat.{suc-add}
use native.Mathlib.Omega.{arith}
use lib.ListN.{length, get_or, set, length-set}
use lib.Seq.{get_or-set_same, get_or-set_other}
use borrow.Author.Tests.{eq-eqb, ne_eqb}
use Rattle.network.specs.Limits.{most_links}
use Rattle.network.specs.Lists.{from}
use Rattle.network.proofs.Tests.{by_eq, by_lt}
use Rattle.area.specs.Layout.{area_words, circuit_words, most_circuits}
use Rattle.area.specs.Station.{Circuit, place, circuit_of, words_in, circuit_at, circuits, held_in, station}
use Rattle.area.specs.Books.{numbers, holds}
use Rattle.area.specs.Formed.{UnusedClear}
use Rattle.area.specs.Held.{number_at, place_of}
use Rattle.area.specs.Moves.{closed, removed, without, without_number, Untouched}
use Rattle.area.specs.Order.{Rising}
use Rattle.area.proofs.Places.{held_place, rising_places}
use Rattle.area.proofs.StationWords.{circuit_same, clear_same, circuits_alike, table_untouched}

-- ---- a gap closed
closed_long : (w : List ℕ) (a n : ℕ) → length (closed w a n) ≡ length w
unfolding closed
closed_long w a zero = refl
closed_long w a (suc n) = closed_long (set w a (get_or w (a + circuit_words) 0)) (suc a) n ∙ length-set w a (get_or w (a + circuit_words) 0)

closed_before : (w : List ℕ) (a n i : ℕ) → i < a → get_or (closed w a n) i 0 ≡ get_or w i 0
unfolding closed
closed_before w a zero i low = refl
closed_before w a (suc n) i low =
    closed_before (set w a (get_or w (a + circuit_words) 0)) (suc a) n i (omega arith) ∙ get_or-set_other w a i (get_or w (a + circuit_words) 0) 0 (omega arith)

closed_past : (w : List ℕ) (a n i : ℕ) → a + n ≤ i → get_or (closed w a n) i 0 ≡ get_or w i 0
unfolding closed
closed_past w a zero i high = refl
closed_past w a (suc n) i high =
    closed_past (set w a (get_or w (a + circuit_words) 0)) (suc a) n i (omega arith) ∙ get_or-set_other w a i (get_or w (a + circuit_words) 0) 0 (omega arith)

-- a word that is overwritten is the word a circuit after it: that one is read before it is overwritten itself
closed_in : (w : List ℕ) (a n i : ℕ) → a + n + circuit_words ≤ length w → a ≤ i → i < a + n → get_or (closed w a n) i 0 ≡ get_or w (i + circuit_words) 0
unfolding closed
closed_in w a zero i fits above low = absurd (omega arith)
closed_in w a (suc n) i fits above low =
    by_eq i a
    (λ e.
    closed_before (set w a (get_or w (a + circuit_words) 0)) (suc a) n i (omega arith)
    ∙ rw e (get_or-set_same w a (get_or w (a + circuit_words) 0) 0 (omega arith)))
    (λ e.
    closed_in (set w a (get_or w (a + circuit_words) 0)) (suc a) n i (rw length-set (omega arith)) (omega arith) (omega arith)
    ∙ get_or-set_other w a (i + circuit_words) (get_or w (a + circuit_words) 0) 0 (omega arith))

-- ---- a circuit less
pub removed_long : (w : List ℕ) (j : ℕ) → length (removed w j) ≡ length w
unfolding removed
removed_long w j =
    length-set (closed w (place j) (circuit_words * (get_or w 2 0 - 1 - j))) 2 _
    ∙ closed_long w (place j) (circuit_words * (get_or w 2 0 - 1 - j))

removed_before : (w : List ℕ) (j i : ℕ) → i < place j → i ≢ 2 → get_or (removed w j) i 0 ≡ get_or w i 0
unfolding removed
removed_before w j i low other =
    get_or-set_other (closed w (place j) (circuit_words * (get_or w 2 0 - 1 - j))) 2 i _ 0 other
    ∙ closed_before w (place j) (circuit_words * (get_or w 2 0 - 1 - j)) i low

removed_in : (w : List ℕ) (j i : ℕ) → j < get_or w 2 0 → place (get_or w 2 0) ≤ length w → place j ≤ i → i + circuit_words < place (get_or w 2 0)
    → get_or (removed w j) i 0 ≡ get_or w (i + circuit_words) 0
unfolding removed
removed_in w j i held fits above low =
    get_or-set_other (closed w (place j) (circuit_words * (get_or w 2 0 - 1 - j))) 2 i _ 0 (omega arith)
    ∙ closed_in w (place j) (circuit_words * (get_or w 2 0 - 1 - j)) i (omega arith) above (omega arith)

removed_past : (w : List ℕ) (j i : ℕ) → j < get_or w 2 0 → place (get_or w 2 0) ≤ i + circuit_words → place j ≤ i → get_or (removed w j) i 0 ≡ get_or w i 0
unfolding removed
removed_past w j i held high above =
    get_or-set_other (closed w (place j) (circuit_words * (get_or w 2 0 - 1 - j))) 2 i _ 0 (omega arith)
    ∙ closed_past w (place j) (circuit_words * (get_or w 2 0 - 1 - j)) i (omega arith)

removed_count : (w : List ℕ) (j : ℕ) → 3 ≤ length w → get_or (removed w j) 2 0 ≡ get_or w 2 0 - 1
unfolding removed
removed_count w j fits =
    get_or-set_same (closed w (place j) (circuit_words * (get_or w 2 0 - 1 - j))) 2 (get_or w 2 0 - 1) 0 (rw closed_long (omega arith))

-- a release leaves n, m, the links and the words past the circuits
pub removed_untouched : (w : List ℕ) (j : ℕ) → get_or w 2 0 ≤ most_circuits → j < get_or w 2 0 → Untouched w (removed w j)
removed_untouched w j room held =
    record {
      nodes = removed_before w j 0 (omega arith) (omega arith);
      links = removed_before w j 1 (omega arith) (omega arith);
      table = λ i above low. removed_before w j i (omega arith) (omega arith);
      past = λ i high. removed_past w j i held (omega arith) (omega arith);
      long = removed_long w j;
    }

-- ---- the circuits after these stores
module _ (w : List ℕ) (j : ℕ) (low : j < get_or w 2 0) (fits : place (get_or w 2 0) ≤ length w) where
  -- the circuit at a place before it stays
  before_words : (k i : ℕ) → k < j → i < circuit_words → get_or (removed w j) (place k + i) 0 ≡ get_or w (place k + i) 0
  before_words k i less small = removed_before w j (place k + i) (omega arith) (omega arith)

  -- from its place on, each circuit is the next one of before
  after_words : (k i : ℕ) → j ≤ k → suc k < get_or w 2 0 → i < circuit_words
      → get_or (removed w j) (place k + i) 0 ≡ get_or w (place (suc k) + i) 0
  after_words k i above less small =
      let further : place k + i + circuit_words ≡ place (suc k) + i = omega arith in
      removed_in w j (place k + i) low fits (omega arith) (omega arith) ∙ ap (λ (m : ℕ). get_or w m 0) further

  behind : (n : ℕ) → j + suc n ≡ get_or w 2 0 → from (circuit_at (removed w j)) j n ≡ from (circuit_at w) (suc j) n
  behind n e =
      circuits_alike w (removed w j) (suc j) j n
      λ k i less small. rw (suc-add j k) (after_words (j + k) i (omega arith) (omega arith) small)

  -- circuit j has number k, and no other circuit has it
  module _ (k : ℕ) (is : k ≡ number_at w j) (only : (i : ℕ) → i < get_or w 2 0 → (i ≡ j → ⊥) → k ≡ number_at w i → ⊥) where
    -- the circuits behind it stay
    behind_without : (n i : ℕ) → j < i → i + n ≡ get_or w 2 0 → without k (from (circuit_at w) i n) ≡ from (circuit_at w) i n
    unfolding circuit_of
    behind_without zero i above e = refl
    behind_without (suc n) i above e =
        rw (ne_eqb k (number_at w i) (only i (omega arith) (omega arith)))
        (ap (λ (l : List Circuit). circuit_at w i ∷ l) (behind_without n (suc i) (omega arith) (omega arith)))

    held_here : (n : ℕ) → j + suc n ≡ get_or w 2 0
        → from (circuit_at (removed w j)) j n ≡ without k (from (circuit_at w) j (suc n))
    unfolding circuit_of
    held_here n e = rw (eq-eqb k (number_at w j) is) (behind n e ∙ sym (behind_without n (suc j) (omega arith) (omega arith)))

    held_from : (n i : ℕ) → i ≤ j → i + suc n ≡ get_or w 2 0
        → from (circuit_at (removed w j)) i n ≡ without k (from (circuit_at w) i (suc n))
    unfolding circuit_of
    held_from zero i most e =
        let last : i ≡ j = omega arith in
        rw last (held_here zero (omega arith))
    held_from (suc n) i most e =
        by_eq i j (λ q. rw q (held_here (suc n) (omega arith)))
        (λ q.
        rw (ne_eqb k (number_at w i) (only i (omega arith) q))
        (ap₂ ◌∷◌ (circuit_same w (removed w j) i i λ m small. before_words i m (omega arith) small)
        (held_from n (suc i) (omega arith) (omega arith))))

    held_without : circuits (removed w j) (get_or (removed w j) 2 0) ≡ without k (circuits w (get_or w 2 0))
    held_without =
        let all : suc (get_or w 2 0 - 1) ≡ get_or w 2 0 = omega arith in
        rw (removed_count w j (omega arith))
        (held_from (get_or w 2 0 - 1) 0 (omega arith) (omega arith) ∙ ap (λ (m : ℕ). without k (circuits w m)) all)

-- the area with the circuit at a held number's place less is the station without the number
pub removed_station : (w : List ℕ) (k : ℕ) → area_words ≤ length w → get_or w 1 0 ≤ most_links → get_or w 2 0 ≤ most_circuits
    → Rising (numbers (station w).held) → holds (station w).held k ≡ true
    → station (removed w (place_of w k)) ≡ without_number (station w) k
unfolding station
removed_station w k long few room rising has =
    λ t. record { table = table_untouched w (removed w j) (removed_untouched w j room at.0) few t; held = held t }
  where
    j : ℕ
    j = place_of w k

    at : (j < get_or w 2 0) × (k ≡ number_at w j)
    at = held_place w k rising has

    -- another circuit has a lower number, or a higher one
    only : (i : ℕ) → i < get_or w 2 0 → (i ≡ j → ⊥) → k ≡ number_at w i → ⊥
    only i below apart same =
        by_lt i j (λ less. omega (arith, same, at.1, rising_places w (get_or w 2 0) rising i j less at.0))
        (λ above. omega (arith, same, at.1, rising_places w (get_or w 2 0) rising j i (omega arith) below))

    held : circuits (removed w j) (get_or (removed w j) 2 0) ≡ without k (circuits w (get_or w 2 0))
    held = held_without w j at.0 (omega arith) k at.1 only

-- and the unused path words of its circuits are 0 if those of the held ones were
pub removed_clear : (w : List ℕ) (j : ℕ) → place (get_or w 2 0) ≤ length w → j < get_or w 2 0
    → ((k : ℕ) → k < held_in w → UnusedClear (words_in w k))
    → (k : ℕ) → k < held_in (removed w j) → UnusedClear (words_in (removed w j) k)
removed_clear w j fits low clear k small =
    by_lt k j
    (λ less. clear_same w (removed w j) k k (λ i narrow. before_words w j low fits k i less narrow) (clear k (omega arith)))
    (λ above.
    clear_same w (removed w j) (suc k) k (λ i narrow. after_words w j low fits k i above (omega (arith, held)) narrow)
    (clear (suc k) (omega (arith, held))))
  where
    held : suc k < get_or w 2 0
    held = omega (arith, removed_count w j (omega arith))
