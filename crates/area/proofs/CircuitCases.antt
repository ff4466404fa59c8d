-- The tests of held circuits, one answer for each of the code's returns. A circuit's three numbers are tested first, then its
-- unused path words and the number before it.
-- Assumes nothing.
use mathlib.Core.Path.{◌≡◌, refl, sym, ap, ◌∙◌}
use mathlib.Core.Bool.{true, false, ◌&&◌, and-false}
use mathlib.Core.List.{List}
use mathlib.Core.Logic.{◌⊎◌, inl, inr}
use Prim.Native.Nat.{ℕ, ◌≤◌, ◌<◌}
use native.Mathlib.Omega.{arith}
use lib.Dec.{leb}
use lib.ListN.{get_or}
use Rattle.std.specs.Prelude.{Option, None, Some, MatchOption}
use Rattle.std.specs.Option.{unwrap_or}
use Rattle.network.specs.Limits.{least_path_links, least_units, most_path_links, most_units}
use Rattle.network.specs.Loops.{first}
use Rattle.network.specs.Ranges.{in_range}
use Rattle.network.proofs.Loops.{first_here, first_nowhere}
use Rattle.area.specs.Layout.{circuit_words, least_number, most_number, path_start}
use Rattle.area.specs.Station.{Circuit, words_at, place, circuit_of, words_in, circuit_at}
use Rattle.area.specs.Held.{number_at}
use Rattle.area.specs.Formed.{numbers_fit, unused_clear, rises, words_fit}
use Rattle.area.proofs.WordsAt.{words_length}

-- ---- a circuit's words
-- the circuit, with its path's words as the code holds them
pub circuit_is : (c p : List ℕ) → p ≡ words_at c path_start (get_or c 2 0)
    → circuit_of c ≡ record { number = get_or c 0 0; units = get_or c 1 0; path = p }
unfolding circuit_of
circuit_is c p is = rw is refl

module _ (c : List ℕ) where
  -- the path's length is the count word
  numbers_tests : numbers_fit (circuit_of c)
      ≡ (in_range least_number most_number (get_or c 0 0)
      && (in_range least_units most_units (get_or c 1 0) && in_range least_path_links most_path_links (get_or c 2 0)))
  unfolding numbers_fit circuit_of
  numbers_tests = rw (words_length c path_start (get_or c 2 0)) refl

  -- one of the first three words is out of range
  pub numbers_out : (in_range least_number most_number (get_or c 0 0) ≡ false)
      ⊎ ((in_range least_units most_units (get_or c 1 0) ≡ false) ⊎ (in_range least_path_links most_path_links (get_or c 2 0) ≡ false))
      → false ≡ numbers_fit (circuit_of c)
  numbers_out (inl e) = rw (numbers_tests, e) refl
  numbers_out (inr (inl e)) = rw (numbers_tests, e, and-false (in_range least_number most_number (get_or c 0 0))) refl
  numbers_out (inr (inr e)) =
      rw (numbers_tests, e, and-false (in_range least_units most_units (get_or c 1 0)), and-false (in_range least_number most_number (get_or c 0 0))) refl

  -- all in range
  pub numbers_in : in_range least_number most_number (get_or c 0 0) ≡ true → in_range least_units most_units (get_or c 1 0) ≡ true
      → in_range least_path_links most_path_links (get_or c 2 0) ≡ true
      → true ≡ numbers_fit (circuit_of c)
  numbers_in number units count = rw (numbers_tests, number, units, count) refl

-- ---- a place
-- the code reads circuit j's words at its place
module _ (w : List ℕ) (j at : ℕ) (here : at ≡ place j) (p : List ℕ) (part : p ≡ words_at w at circuit_words) where
  words_there : words_in w j ≡ p
  words_there = sym (part ∙ ap (λ (a : ℕ). words_at w a circuit_words) here)

  pub circuit_there : (c : Circuit) → circuit_of p ≡ c → circuit_at w j ≡ c
  circuit_there c is = ap circuit_of words_there ∙ is

  words_tests : words_fit w j ≡ (numbers_fit (circuit_of p) && (unused_clear p && rises w j))
  unfolding words_fit
  words_tests = ap (λ (l : List ℕ). numbers_fit (circuit_of l) && (unused_clear l && rises w j)) words_there

  -- the circuit's numbers do not fit
  pub numbers_fail : false ≡ numbers_fit (circuit_of p) → false ≡ words_fit w j
  numbers_fail e = sym (words_tests ∙ rw (← e) refl)

  -- they fit: it is up to its unused words and to the number before it
  pub words_left : true ≡ numbers_fit (circuit_of p) → (unused_clear p && rises w j) ≡ words_fit w j
  words_left fits = sym (words_tests ∙ rw (← fits) refl)

-- ---- the place of a number
-- what the code's search says of the numbers before the one where it ends, and of that one
pub place_told : (w : List ℕ) (h k : ℕ) (r : Option ℕ)
    → MatchOption r ((i : ℕ) → 0 ≤ i → i < h → leb k (number_at w i) ≡ false)
    (λ j. (0 ≤ j) × (j < h) × (leb k (number_at w j) ≡ true) × ((i : ℕ) → 0 ≤ i → i < j → leb k (number_at w i) ≡ false))
    → unwrap_or r h ≡ first (λ j. leb k (number_at w j)) h
place_told w h k None told = first_nowhere (λ j. leb k (number_at w j)) h (λ i low. told i (omega arith) low)
place_told w h k (Some j) told = first_here (λ i. leb k (number_at w i)) h j (λ i low. told.3 i (omega arith) low) told.1 told.2
