-- A call's checks in document 01's order, each with its refusal number, as the code tries them: the first that fails
-- refuses. proofs/Checks.antt shows that tests of the rules of Refusals.antt refuse as the rules do.
-- Assumes nothing.
use Rattle.std.specs.Prelude.{ℕ, zero, suc, Bool, cond, List, [], ◌∷◌}

pub record Check : Type 0 where
  pub number : ℕ
  pub passes : Bool

infix 3 ◌unless◌
abbrev pub ◌unless◌ : ℕ → Bool → Check
n unless ok = record { number = n; passes = ok }

-- the number of the first check that fails, or 0, which is no refusal's number, where every check passes
abbrev pub first_failing : List Check → ℕ
first_failing [] = 0
first_failing (c ∷ cs) = cond c.passes (first_failing cs) c.number

-- a where the number is 0, else what is given for that refusal
abbrev pub unless_refused : {A : Type 0} → (ℕ → A) → A → ℕ → A
unless_refused refuse a zero = a
unless_refused refuse a (suc k) = refuse (suc k)

-- past its checks a call gives a
abbrev pub checked : {A : Type 0} → (ℕ → A) → List Check → A → A
checked refuse cs a = unless_refused refuse a (first_failing cs)
