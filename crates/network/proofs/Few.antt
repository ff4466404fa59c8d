-- A list of numbers below n, none of them twice, has at most n of them: with n − 1 taken out it is shorter by one at
-- most, and the rest are below n − 1.
-- Assumes nothing.
use mathlib.Core.Path.{◌≡◌, refl, sym, subst}
use mathlib.Core.Bool.{Bool, true, false, cond}
use mathlib.Core.List.{List, [], ◌∷◌}
use Prim.Native.Nat.{ℕ, zero, suc, ◌≤◌, ◌<◌}
use native.Mathlib.Omega.{arith}
use lib.Dec.{eqb}
use lib.ListN.{length}
use borrow.Author.Tests.{eqb-true, eqb-false}
use Rattle.network.specs.Lists.{All, Distinct}

-- the list without the first place where a stands
without : ℕ → List ℕ → List ℕ
without a [] = []
without a (b ∷ l) = cond (eqb a b) l (b ∷ without a l)

-- what `without` does at a number, by its two cases
module _ (a b : ℕ) (l : List ℕ) (P : List ℕ → Type 0) where
  at_head : (a ≡ b → P l) → ((a ≡ b → ⊥) → P (b ∷ without a l)) → P (without a (b ∷ l))
  unfolding without
  at_head yes_case no_case = go (eqb a b) refl
    where
      go : (t : Bool) → eqb a b ≡ t → P (cond t l (b ∷ without a l))
      go true e = yes_case (eqb-true a b e)
      go false e = no_case (eqb-false a b e)

fewer : (a : ℕ) (l : List ℕ) → length l ≤ suc (length (without a l))
unfolding without
fewer a [] = omega arith
fewer a (b ∷ l) = at_head a b l (λ r. length (b ∷ l) ≤ suc (length r)) (λ e. omega arith) (λ e. omega (arith, fewer a l))

kept : (P : ℕ → Type 0) (a : ℕ) (l : List ℕ) → All P l → All P (without a l)
unfolding without
kept P a [] h = tt
kept P a (b ∷ l) h = at_head a b l (All P) (λ e. h.1) (λ e. (h.0, kept P a l h.1))

gone : (a : ℕ) (l : List ℕ) → Distinct l → All (λ b. a ≡ b → ⊥) (without a l)
unfolding without
gone a [] h = tt
gone a (b ∷ l) h =
    at_head a b l (All (λ c. a ≡ c → ⊥)) (λ e. subst (λ (c : ℕ). All (λ d. c ≡ d → ⊥) l) (sym e) h.0) (λ e. (e, gone a l h.1))

still : (a : ℕ) (l : List ℕ) → Distinct l → Distinct (without a l)
unfolding without
still a [] h = tt
still a (b ∷ l) h = at_head a b l Distinct (λ e. h.1) (λ e. (kept (λ c. b ≡ c → ⊥) a l h.0, still a l h.1))

lower : (n : ℕ) (l : List ℕ) → All (λ b. b < suc n) l → All (λ b. n ≡ b → ⊥) l → All (λ b. b < n) l
lower n [] h k = tt
lower n (b ∷ l) h k = (less, lower n l h.1 k.1)
  where
    low : b < suc n
    low = h.0

    differs : n ≡ b → ⊥
    differs = k.0

    less : b < n
    less = omega arith

pub few : (n : ℕ) (l : List ℕ) → Distinct l → All (λ b. b < n) l → length l ≤ n
few zero [] h k = omega arith
few zero (b ∷ l) h k = let low : b < zero = k.0 in omega arith
few (suc n) l h k = omega (arith, fewer n l, few n (without n l) (still n l h) (lower n (without n l) (kept (λ b. b < suc n) n l k) (gone n l h)))
