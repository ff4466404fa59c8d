-- How a call is refused, and what it replies: document 01's rules for it in their order, each with its number, and a call
-- is refused by the first that applies. No algorithm; Checks.antt has the tests that the code runs.
-- Assumes nothing.
use Rattle.std.specs.Prelude.{ℕ, ◌≡◌, List, [], ◌∷◌, ◌⊎◌, Result, Ok, Err}
use Rattle.network.specs.declared.answer.NoRoute.{NoRoute}
use Rattle.network.specs.declared.answer.NoRoute.TheVariants as route
use Rattle.area.specs.declared.refusal.Refusal.{Refusal}
use Rattle.area.specs.declared.refusal.Refusal.TheVariants as refusal

-- a rule: its number, and when it applies
pub record Rule : Type 1 where
  pub number : ℕ
  pub applies : Type 0

infix 3 ◌when◌
abbrev pub ◌when◌ : ℕ → Type 0 → Rule
n when p = record { number = n; applies = p }

-- k is the number of the first rule that applies
abbrev pub FirstApplies : List Rule → ℕ → Type 0
FirstApplies [] k = ⊥
FirstApplies (r ∷ rs) k = (r.applies × (k ≡ r.number)) ⊎ ((r.applies → ⊥) × FirstApplies rs k)

-- no rule applies
abbrev pub Passes : List Rule → Type 0
Passes [] = Unit
Passes (r ∷ rs) = (r.applies → ⊥) × Passes rs

-- a call is refused with document 01's number, or it grants what the call is for
pub data Reply (A : Type 0) : Type 0 where
  refuses : (number : ℕ) → Reply A
  grants : (what : A) → Reply A

-- document 01's number for each refusal of the code
abbrev pub number : Refusal → ℕ
number refusal.AreaShort = 1
number refusal.NodeCount = 2
number refusal.WordCount = 3
number refusal.LinkRange = 4
number refusal.NotWellFormed = 5
number refusal.WorkShort = 6
number refusal.PathShort = 7
number refusal.RequestRange = 8
number refusal.NoPath = 9
number refusal.NoSolution = 10
number refusal.CircuitNumber = 11
number refusal.CircuitsFull = 12
number refusal.NotHeld = 13
number refusal.NumbersShort = 14
number refusal.NoSuchLink = 15
number refusal.NoSuchClass = 16
number refusal.NotSigned = 17
number refusal.FileLength = 18
number refusal.TableShort = 19
number refusal.ClassWords = 20
number refusal.ClassRange = 21
number refusal.HoldRange = 22
number refusal.JobWords = 23
number refusal.AnswersShort = 24

-- the refusal for what a search did not find
abbrev pub refusal_of : NoRoute → Refusal
refusal_of route.NoPath = refusal.NoPath
refusal_of route.NoSolution = refusal.NoSolution

-- the code's answer as document 01 has it: a refusal by its number, or what is granted
abbrev pub numbered : {A : Type 0} → Result A Refusal → Reply A
numbered (Err e) = refuses (number e)
numbered (Ok a) = grants a

abbrev pub IsRefused : {A : Type 0} → Reply A → Type 0
IsRefused a = (k : ℕ) × (a ≡ refuses k)

abbrev pub IsGranted : {A : Type 0} → Reply A → Type 0
IsGranted {A = A} a = (b : A) × (a ≡ grants b)

-- the reply is a refusal by the first rule that applies; where none does, it grants as G says
abbrev pub Answered : {A : Type 0} → (A → Type 0) → List Rule → Reply A → Type 0
Answered G rs (refuses k) = FirstApplies rs k
Answered G rs (grants a) = Passes rs × G a
