-- A list of checks: the first that fails refuses, whatever stands behind it; an answer that is no refusal comes past every
-- one of them; and checks that test rules refuse as the rules do, by the first that applies.
-- Assumes nothing.
use Prim.Native.Nat.{ℕ, zero, suc, ◌≤◌, ◌<◌}
use mathlib.Core.Path.{◌≡◌, refl, sym, ap, ◌∙◌}
use mathlib.Core.Bool.{Bool, true, false, ◌&&◌, true≢false}
use mathlib.Core.List.{List, [], ◌∷◌, ◌++◌}
use mathlib.Core.Logic.{inl, inr}
use native.Mathlib.Omega.{arith}
use lib.Dec.{ltb, leb}
use borrow.Author.Tests.{leb-true, leb-false, ltb-true, ltb-false}
use Rattle.network.specs.Lists.{All}
use Rattle.network.proofs.Tests.{by_bool, fst_of, snd_of, zero_one}
use Rattle.area.specs.Refusals.{Rule, ◌when◌, FirstApplies, Passes, Reply, refuses, grants, Answered}
use Rattle.area.specs.Checks.{Check, ◌unless◌, first_failing, unless_refused, checked}

-- ---- the first that fails
-- the checks `cs` pass and c, which comes behind them, fails
pub first_number : (c : Check) (more : List Check) → c.passes ≡ false
    → (cs : List Check) → All (λ (b : Check). b.passes ≡ true) cs
    → first_failing (cs ++ c ∷ more) ≡ c.number
first_number c more fails [] ok = rw fails refl
first_number c more fails (b ∷ cs) ok = rw ok.0 (first_number c more fails cs ok.1)

-- every check's number is over 0, as document 01's are
abbrev pub over_zero : List Check → Bool
over_zero [] = true
over_zero (c ∷ cs) = ltb 0 c.number && over_zero cs

-- where none fails, every check passes
pub each_passes : (cs : List Check) → over_zero cs ≡ true → first_failing cs ≡ 0 → All (λ (c : Check). c.passes ≡ true) cs
each_passes [] over e = tt
each_passes (c ∷ cs) over e =
    by_bool c.passes
    (λ q. (q, each_passes cs (snd_of (ltb 0 c.number) _ over) (rw q at e)))
    (λ q. absurd (omega (arith, ltb-true 0 c.number (fst_of (ltb 0 c.number) _ over), rw q at e)))

-- an answer that is no refusal comes past every check
pub all_pass : {A : Type 0} (refuse : ℕ → A) (cs : List Check) (a b : A) → ((k : ℕ) → refuse k ≡ b → ⊥) → checked refuse cs a ≡ b
    → (first_failing cs ≡ 0) × (a ≡ b)
all_pass refuse cs a b other e = go (first_failing cs) e
  where
    go : (n : ℕ) → unless_refused refuse a n ≡ b → (n ≡ 0) × (a ≡ b)
    go zero e = (refl, e)
    go (suc k) e = absurd (other (suc k) e)

-- what is made of an answer is made of its refusals and of what comes past the checks
pub checked_made : {A B : Type 0} (f : A → B) (refuse : ℕ → A) (cs : List Check) (a : A)
    → checked (λ k. f (refuse k)) cs (f a) ≡ f (checked refuse cs a)
checked_made f refuse cs a = go (first_failing cs)
  where
    go : (n : ℕ) → unless_refused (λ k. f (refuse k)) (f a) n ≡ f (unless_refused refuse a n)
    go zero = refl
    go (suc k) = refl

-- ---- checks with others behind them
-- a refusal by the checks `cs` alone is one by more checks, and what they grant alone is left to those behind
module _ {A : Type 0} (cs more : List Check) (a : Reply A) where
  pub refused_first : {B : Type 0} (b : B) (k : ℕ) → refuses k ≡ checked {A = Reply B} refuses cs (grants b) → refuses k ≡ checked refuses (cs ++ more) a
  refused_first {B = B} b k e = go (first_failing cs) refl e
    where
      kept : (l : List Check) (j : ℕ) → first_failing l ≡ suc j → first_failing (l ++ more) ≡ suc j
      kept [] j e = absurd (zero_one cc)
      kept (c ∷ l) j e = by_bool c.passes (λ q. rw q (kept l j (rw q at e))) (λ q. rw q (rw q at e))

      go : (n : ℕ) → first_failing cs ≡ n → refuses k ≡ unless_refused {A = Reply B} refuses (grants b) n → refuses k ≡ checked refuses (cs ++ more) a
      go zero is e = absurd (zero_one cc)
      go (suc j) is e = let same : k ≡ suc j = cc in rw (same, kept cs j is) refl

  pub granted_first : {B : Type 0} (b d : B) → over_zero cs ≡ true → grants d ≡ checked {A = Reply B} refuses cs (grants b)
      → checked refuses more a ≡ checked refuses (cs ++ more) a
  granted_first {B = B} b d over e = ap (unless_refused refuses a) (sym (passed cs (each_passes cs over (go (first_failing cs) refl e))))
    where
      passed : (l : List Check) → All (λ (c : Check). c.passes ≡ true) l → first_failing (l ++ more) ≡ first_failing more
      passed [] ok = refl
      passed (c ∷ l) ok = rw ok.0 (passed l ok.1)

      go : (n : ℕ) → first_failing cs ≡ n → grants d ≡ unless_refused {A = Reply B} refuses (grants b) n → first_failing cs ≡ 0
      go zero is e = is
      go (suc j) is e = absurd (zero_one cc)

-- ---- checks that test rules
-- a check has its rule's number and fails just where the rule applies
pub record Tests (c : Check) (r : Rule) : Type 0 where
  pub over : 0 < c.number
  pub number : c.number ≡ r.number
  pub passes : c.passes ≡ true → r.applies → ⊥
  pub fails : c.passes ≡ false → r.applies

-- each of a list tests the rule at its place
abbrev pub Tested : List Check → List Rule → Type 0
Tested [] [] = Unit
Tested [] (r ∷ rs) = ⊥
Tested (c ∷ cs) [] = ⊥
Tested (c ∷ cs) (r ∷ rs) = Tests c r × Tested cs rs

module _ (k : ℕ) (over : 0 < k) where
  -- a rule that applies where a statement does not hold, with the statement's test
  pub tests_not : {P : Type 0} (b : Bool) → (b ≡ true → P) → (P → b ≡ true) → Tests (k unless b) (k when (P → ⊥))
  tests_not b says test =
      record {
        over = over;
        number = refl;
        passes = λ e lacks. lacks (says e);
        fails = λ e h. true≢false (sym (test h) ∙ e);
      }

  -- one that applies where a number is too small
  pub tests_short : (least n : ℕ) → Tests (k unless leb least n) (k when n < least)
  tests_short least n =
      record { over = over; number = refl; passes = λ e low. omega (arith, leb-true least n e); fails = leb-false least n }

  -- one that applies where a number is too great
  pub tests_full : (n most : ℕ) → Tests (k unless ltb n most) (k when most ≤ n)
  tests_full n most =
      record { over = over; number = refl; passes = λ e high. omega (arith, ltb-true n most e); fails = ltb-false n most }

  -- one that applies where a test is false
  pub tests_false : (b : Bool) → Tests (k unless b) (k when b ≡ false)
  tests_false b = record { over = over; number = refl; passes = λ e f. true≢false (sym e ∙ f); fails = λ e. e }

-- what holds of the refusal by the first rule that applies, and past all rules of a, holds of what the checks give
pub checked_by : {A : Type 0} (P : A → Type 0) (refuse : ℕ → A) (cs : List Check) (rs : List Rule) → Tested cs rs
    → (a : A) → (Passes rs → P a) → ((k : ℕ) → FirstApplies rs k → P (refuse k)) → P (checked refuse cs a)
checked_by P refuse [] [] t a on refused = on tt
checked_by P refuse [] (r ∷ rs) t a on refused = absurd t
checked_by P refuse (c ∷ cs) [] t a on refused = absurd t
checked_by P refuse (c ∷ cs) (r ∷ rs) t a on refused =
    by_bool c.passes
    (λ q. rw q (checked_by P refuse cs rs t.1 a (λ p. on (t.0.passes q, p)) (λ k h. refused k (inr (t.0.passes q, h)))))
    (λ q. rw q (by_number c.number t.0.over (refused c.number (inl (t.0.fails q, t.0.number)))))
  where
    by_number : (n : ℕ) → 0 < n → P (refuse n) → P (unless_refused refuse a n)
    by_number zero over h = absurd (omega (arith, over))
    by_number (suc n) over h = h

-- the first that applies is the first of more rules
pub first_of_more : (rs qs : List Rule) (k : ℕ) → FirstApplies rs k → FirstApplies (rs ++ qs) k
first_of_more [] qs k h = absurd h
first_of_more (r ∷ rs) qs k (inl h) = inl h
first_of_more (r ∷ rs) qs k (inr h) = inr (h.0, first_of_more rs qs k h.1)

module _ {A : Type 0} (G : A → Type 0) where
  -- rules that do not apply change nothing
  pub unapplied : (r : Rule) (rs : List Rule) → (r.applies → ⊥) → (a : Reply A) → Answered G rs a → Answered G (r ∷ rs) a
  unapplied r rs n (refuses k) h = inr (λ p. absurd (n p), h)
  unapplied r rs n (grants a) h = ((λ p. absurd (n p), h.0), h.1)

  all_unapplied : (rs qs : List Rule) → Passes rs → (a : Reply A) → Answered G qs a → Answered G (rs ++ qs) a
  all_unapplied [] qs p a h = h
  all_unapplied (r ∷ rs) qs p a h = unapplied r (rs ++ qs) p.0 a (all_unapplied rs qs p.1 a h)

  -- checks that test rules refuse as the rules do; past them the rules that are left decide
  pub checked_answers : (cs : List Check) (rs : List Rule) → Tested cs rs → (qs : List Rule) (a : Reply A) → (Passes rs → Answered G qs a)
      → Answered G (rs ++ qs) (checked refuses cs a)
  checked_answers cs rs t qs a on =
      checked_by (Answered G (rs ++ qs)) refuses cs rs t a (λ p. all_unapplied rs qs p a (on p)) (first_of_more rs qs)
