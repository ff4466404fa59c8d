-- Small functions on lists that the other files and rooms share.
-- Assumes nothing.
use Rattle.std.specs.Prelude.{ℕ, zero, suc, ◌≡◌, Bool, true, false, not, ◌&&◌, ◌||◌, List, [], ◌∷◌, ◌++◌, eqb}

-- the statement holds of every element
abbrev pub All {ℓ κ} : {A : Type ℓ} → (A → Type κ) → List A → Type κ
All P [] = Unit
All P (a ∷ l) = P a × All P l

-- is the number in the list
abbrev pub memb : ℕ → List ℕ → Bool
memb a [] = false
memb a (b ∷ l) = eqb a b || memb a l

-- no number is in the list twice: as a statement, and as a test
abbrev pub Distinct : List ℕ → Type 0
Distinct [] = Unit
Distinct (a ∷ l) = All (λ b. a ≡ b → ⊥) l × Distinct l

abbrev pub distinctb : List ℕ → Bool
distinctb [] = true
distinctb (a ∷ l) = not (memb a l) && distinctb l

-- what a function gives for n numbers from i on
abbrev pub from : {A : Type 0} → (ℕ → A) → ℕ → ℕ → List A
from f i zero = []
from f i (suc n) = f i ∷ from f (suc i) n

-- lists one behind the other
abbrev pub joined : {A : Type 0} → List (List A) → List A
joined [] = []
joined (l ∷ ls) = l ++ joined ls
