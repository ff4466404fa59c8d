-- The words from a place on: how many they are, what each is, and when two such runs are equal. Two runs of one length
-- are equal because they agree word by word.
-- Assumes nothing.
use mathlib.Core.Path.{◌≡◌, refl, sym, ap, ◌∙◌}
use mathlib.Core.List.{List, ◌∷◌, ◌++◌}
use Prim.Native.Nat.{ℕ, zero, suc, ◌+◌, ◌≤◌, ◌<◌}
use native.Mathlib.Nat.{add-zero, zero-add, add-suc, suc-add}
use native.Mathlib.Omega.{arith}
use lib.ListN.{length, get_or, take, drop, get_or-append}
use lib.Seq.{drop-cons, ext_get_or}
use Rattle.area.specs.Station.{words_at}

pub words_length : (w : List ℕ) (a n : ℕ) → length (words_at w a n) ≡ n
words_length w a zero = refl
words_length w a (suc n) = ap suc (words_length w (suc a) n)

pub words_at_lem : (w : List ℕ) (a n i : ℕ) → i < n → get_or (words_at w a n) i 0 ≡ get_or w (a + i) 0
words_at_lem w a zero i h = absurd (omega arith)
words_at_lem w a (suc n) zero h = rw add-zero
words_at_lem w a (suc n) (suc i) h = rw add-suc (words_at_lem w (suc a) n i (omega arith) ∙ rw suc-add)

-- the same words at two places
pub words_same : (w w' : List ℕ) (a a' n : ℕ) → ((i : ℕ) → i < n → get_or w' (a' + i) 0 ≡ get_or w (a + i) 0) → words_at w' a' n ≡ words_at w a n
words_same w w' a a' n h =
    ext_get_or 0 (words_at w' a' n) (words_at w a n) (words_length w' a' n ∙ sym (words_length w a n))
    λ i low.
    let k : i < n = omega (arith, words_length w' a' n) in
    words_at_lem w' a' n i k ∙ h i k ∙ sym (words_at_lem w a n i k)

-- a list that stands at a place is read back from there
pub words_list : (w : List ℕ) (a : ℕ) (p : List ℕ) → ((i : ℕ) → i < length p → get_or w (a + i) 0 ≡ get_or p i 0) → words_at w a (length p) ≡ p
words_list w a p h =
    ext_get_or 0 (words_at w a (length p)) p (words_length w a (length p))
    λ i low.
    let k : i < length p = omega (arith, words_length w a (length p)) in
    words_at_lem w a (length p) i k ∙ h i k

-- and one that others stand behind, from the front
pub words_front : (p rest : List ℕ) → words_at (p ++ rest) 0 (length p) ≡ p
words_front p rest = words_list (p ++ rest) 0 p (λ i low. rw zero-add (get_or-append p rest 0 i low))

-- a part of the list is the words from its place on
pub words_part : (w : List ℕ) (a n : ℕ) → a + n ≤ length w → take n (drop a w) ≡ words_at w a n
words_part w a zero fits = refl
words_part w a (suc n) fits = rw (drop-cons w a 0 (omega arith)) (ap (λ l. get_or w a 0 ∷ l) (words_part w (suc a) n (omega arith)))

-- a run of words and the run behind it
pub words_more : (w : List ℕ) (a n m : ℕ) → words_at w a (n + m) ≡ words_at w a n ++ words_at w (a + n) m
words_more w a zero m = rw (add-zero, zero-add) refl
words_more w a (suc n) m = rw (suc-add n m, add-suc a n, ← suc-add a n) (ap (λ (l : List ℕ). get_or w a 0 ∷ l) (words_more w (suc a) n m))
