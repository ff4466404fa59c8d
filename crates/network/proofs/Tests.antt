-- A test's two cases, with what each says, and the two halves of a test that passed.
-- Assumes nothing.
use mathlib.Core.Path.{◌≡◌, refl, sym, ◌∙◌}
use mathlib.Core.Bool.{Bool, true, false, cond, ◌&&◌, and-eq-true_iff, true≢false}
use Prim.Native.Nat.{ℕ, ◌≤◌, ◌<◌}
use native.Mathlib.Omega.{arith}
use lib.Dec.{ltb, eqb}
use borrow.Author.Tests.{ltb-true, ltb-false, eqb-true, eqb-false}

pub by_test : {A : Type 0} (t : Bool) (a b : A) (P : A → Type 0) → (t ≡ true → P a) → (t ≡ false → P b) → P (cond t a b)
by_test true a b P y n = y refl
by_test false a b P y n = n refl

-- two values that go by the same test are related where their arms are
pub both_cond : {A B : Type 0} (R : A → B → Type 0) (t : Bool) {a b : A} {c d : B} → (t ≡ true → R a c) → (t ≡ false → R b d) → R (cond t a b) (cond t c d)
both_cond R true taken left = taken refl
both_cond R false taken left = left refl

pub by_bool : (t : Bool) {C : Type 0} → (t ≡ true → C) → (t ≡ false → C) → C
by_bool true y n = y refl
by_bool false y n = n refl

pub by_lt : (a b : ℕ) {C : Type 0} → (a < b → C) → (b ≤ a → C) → C
by_lt a b y n = by_bool (ltb a b) (λ e. y (ltb-true a b e)) (λ e. n (ltb-false a b e))

pub by_eq : (a b : ℕ) {C : Type 0} → (a ≡ b → C) → ((a ≡ b → ⊥) → C) → C
by_eq a b y n = by_bool (eqb a b) (λ e. y (eqb-true a b e)) (λ e. n (eqb-false a b e))

pub both : (a b : Bool) → a ≡ true → b ≡ true → (a && b) ≡ true
both a b p q = rw (p, q)

pub fst_of : (a b : Bool) → (a && b) ≡ true → a ≡ true
fst_of a b e = ((and-eq-true_iff a b).0 e).0

pub snd_of : (a b : Bool) → (a && b) ≡ true → b ≡ true
snd_of a b e = ((and-eq-true_iff a b).0 e).1

-- a statement that a test decides holds where it cannot fail
pub unfailing : (t : Bool) {P : Type 0} → (t ≡ true → P) → (P → t ≡ true) → ((P → ⊥) → ⊥) → P
unfailing t says test h = by_bool t says (λ e. absurd (h (λ p. true≢false (sym (test p) ∙ e))))

-- what `cc` shows of two values that are built in different ways is absurd
pub zero_one : ◌≡◌ {A = ℕ} 0 1 → ⊥
zero_one e = omega (arith, e)
