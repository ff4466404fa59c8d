-- Where the unused path words are 0, a circuit's words are fixed by what they say; so two well-formed areas with the same
-- bookings have the same words in the first 34 × h words of circuits.
-- Assumes nothing.
use Prim.Native.Nat.{ℕ, zero, suc, ◌+◌, ◌*◌, ◌-◌, ◌≤◌, ◌<◌}
use mathlib.Core.Path.{◌≡◌, refl, sym, ap, ap₂, ◌∙◌}
use mathlib.Core.List.{List, ◌++◌, map}
use native.Mathlib.Omega.{arith}
use lib.ListN.{length, get_or, replicate, get_or-append}
use lib.Seq.{ext_get_or}
use Rattle.network.specs.Limits.{most_path_links}
use Rattle.network.specs.Lists.{from, joined}
use Rattle.network.proofs.Tests.{by_lt}
use Rattle.network.proofs.Listed.{each_from}
use Rattle.area.specs.Layout.{circuit_words, path_start}
use Rattle.area.specs.Station.{Circuit, words_at, place, circuit_of, words_in, circuit_at, held_in, held_words, station}
use Rattle.area.specs.Order.{SameBookings}
use Rattle.area.specs.Formed.{CircuitFits, UnusedClear, WellFormed}
use Rattle.area.specs.Moves.{words_of}
use Rattle.area.proofs.WordsAt.{words_length, words_at_lem, words_more}
use Rattle.area.proofs.StationWords.{words_left, words_of_length}
use Rattle.area.proofs.Order.{same_list}

-- ---- one circuit's words
module _ (c : List ℕ) (long : length c ≡ circuit_words) (few : get_or c 2 0 ≤ most_path_links) (clear : UnusedClear c) where
  abbrev path : List ℕ
  path = words_at c path_start (get_or c 2 0)

  count : length path ≡ get_or c 2 0
  count = words_length c path_start (get_or c 2 0)

  -- a word of the path, and one past it
  path_word : (k : ℕ) → k < get_or c 2 0 → get_or c (path_start + k) 0 ≡ get_or (path ++ replicate (most_path_links - length path) 0) k 0
  path_word k used =
      sym
      (get_or-append path (replicate (most_path_links - length path) 0) 0 k (omega (arith, count)) ∙ words_at_lem c path_start (get_or c 2 0) k used)

  word_left : (i : ℕ) → path_start + get_or c 2 0 ≤ i → i < circuit_words → get_or c i 0 ≡ get_or (words_of (circuit_of c)) i 0
  unfolding circuit_of
  word_left i past low = clear i past low ∙ sym (words_left (circuit_of c) i (omega (arith, count)))

  -- word by word
  same_word : (i : ℕ) → i < circuit_words → get_or c i 0 ≡ get_or (words_of (circuit_of c)) i 0
  unfolding circuit_of
  same_word zero low = refl
  same_word (suc zero) low = refl
  same_word (suc (suc zero)) low = sym count
  same_word (suc (suc (suc k))) low =
      let behind : suc (suc (suc k)) ≡ path_start + k = omega arith in
      by_lt k (get_or c 2 0) (λ used. ap (λ (i : ℕ). get_or c i 0) behind ∙ path_word k used)
      (λ past. word_left (suc (suc (suc k))) (omega (arith, behind)) low)

  -- they are those of the circuit that they say
  words_again : c ≡ words_of (circuit_of c)
  unfolding circuit_of
  words_again =
      let full = words_of_length (circuit_of c) (omega (arith, count)) in
      ext_get_or 0 c (words_of (circuit_of c)) (long ∙ sym full) (λ i low. same_word i (omega (arith, long)))

-- ---- a well-formed area's words of circuits are those of its station
module _ (w : List ℕ) (formed : WellFormed w) where
  one_again : (j : ℕ) → j < held_in w → words_in w j ≡ words_of (circuit_at w j)
  unfolding station circuit_of
  one_again j low = words_again (words_in w j) (words_length w (place j) circuit_words) few (formed.clear j low)
    where
      few : get_or (words_in w j) 2 0 ≤ most_path_links
      few =
          let fits = each_from (circuit_at w) (CircuitFits (station w).table) 0 (held_in w) formed.sound.each j (omega arith) (omega arith) in
          omega (arith, fits.links_most, words_length (words_in w j) path_start (get_or (words_in w j) 2 0))

  all_again : (j n : ℕ) → j + n ≤ held_in w → words_at w (place j) (circuit_words * n) ≡ joined (map words_of (from (circuit_at w) j n))
  all_again j zero low = refl
  all_again j (suc n) low =
      let more : circuit_words * suc n ≡ circuit_words + circuit_words * n = omega arith in
      let next : place j + circuit_words ≡ place (suc j) = omega arith in
      ap (words_at w (place j)) more
      ∙ words_more w (place j) circuit_words (circuit_words * n)
      ∙ ap₂ ◌++◌ (one_again j (omega arith)) (ap (λ (a : ℕ). words_at w a (circuit_words * n)) next ∙ all_again (suc j) n (omega arith))

  pub words_held : held_words w ≡ joined (map words_of (station w).held)
  unfolding station
  words_held = all_again 0 (held_in w) (omega arith)

-- ---- two well-formed areas with the same bookings: the same circuits in the same order, and so the same words
pub same_words : (w v : List ℕ) → WellFormed w → WellFormed v → SameBookings (station w).held (station v).held → held_words w ≡ held_words v
same_words w v formed formed' same =
    words_held w formed
    ∙ ap (λ (l : List Circuit). joined (map words_of l)) (same_list (station w).held (station v).held formed.sound.rising formed'.sound.rising same)
    ∙ sym (words_held v formed')
