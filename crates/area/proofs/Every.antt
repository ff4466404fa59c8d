-- A test of all the numbers below n, as the code runs it by `all` over a range, and of all elements of a list, as it runs over
-- a slice, is `every`.
-- Assumes nothing.
use Prim.Native.Nat.{ℕ, zero, suc, ◌+◌}
use mathlib.Core.Path.{◌≡◌, refl, sym, ap, ◌∙◌}
use mathlib.Core.Bool.{Bool, true, false, ◌&&◌}
use mathlib.Core.List.{List, [], ◌∷◌}
use native.Mathlib.Nat.{add-zero}
use native.Mathlib.Omega.{arith}
use lib.ListN.{length, get_or}
use Rattle.std.specs.List.{list_all, range_with_len}
use Rattle.network.specs.Loops.{every}
use Rattle.network.proofs.Loops.{every_alike}

-- the first number's test may be taken first
every_front : (f : ℕ → Bool) (n : ℕ) → every f (suc n) ≡ (f 0 && every (λ i. f (suc i)) n)
unfolding every
every_front f zero = go (f 0)
  where
    go : (b : Bool) → (true && b) ≡ (b && true)
    go true = refl
    go false = refl
every_front f (suc n) = rw (every_front f n) (go (f 0) (every (λ i. f (suc i)) n) (f (suc n)))
  where
    go : (a b d : Bool) → ((a && b) && d) ≡ (a && (b && d))
    go true b d = refl
    go false b d = refl

every_from : (f : ℕ → Bool) (a n : ℕ) → list_all f (range_with_len a n) ≡ every (λ i. f (a + i)) n
unfolding every
every_from f a zero = refl
every_from f a (suc n) =
    ap (λ b. f a && b) (every_from f (a + 1) n ∙ every_alike (λ i. f (a + 1 + i)) (λ i. f (a + suc i)) n (λ i low. ap f (omega arith)))
    ∙ rw add-zero at (sym (every_front (λ i. f (a + i)) n))

-- a test of all
pub all_every : (f : ℕ → Bool) (n : ℕ) → list_all f (range_with_len 0 n) ≡ every f n
all_every f n = every_from f 0 n ∙ every_alike (λ i. f (0 + i)) f n (λ i low. ap f (omega arith))

-- a test of all elements
pub each_every : (f : ℕ → Bool) (l : List ℕ) → list_all f l ≡ every (λ i. f (get_or l i 0)) (length l)
unfolding every
each_every f [] = refl
each_every f (a ∷ l) = ap (λ b. f a && b) (each_every f l) ∙ sym (every_front (λ i. f (get_or (a ∷ l) i 0)) (length l))
