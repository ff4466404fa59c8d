-- The first rule that applies: there is one at most, its number is one of the rules', and a reply that the rules allow is a
-- refusal by it and by nothing else. And what the code passes on by `?` is a refusal with the number of what it was given.
-- Assumes nothing.
use Prim.Native.Nat.{ℕ}
use mathlib.Core.Path.{◌≡◌, refl, sym, ap, ◌∙◌, subst}
use mathlib.Core.Bool.{true, or-true}
use mathlib.Core.List.{List, [], ◌∷◌, ◌++◌, map}
use mathlib.Core.Logic.{inl, inr, ◌↔◌}
use lib.Dec.{eqb}
use borrow.Author.Tests.{eq-eqb}
use Rattle.network.specs.Lists.{memb}
use Rattle.network.proofs.Tests.{zero_one}
use Rattle.std.specs.Prelude.{Result, Ok, Err, IsErrAnd}
use Rattle.area.specs.declared.refusal.Refusal.{Refusal}
use Rattle.area.specs.Refusals.{Rule, FirstApplies, Passes, Reply, refuses, grants, Answered, number, numbered}

-- ---- the rules
pub one_first : (rs : List Rule) (j k : ℕ) → FirstApplies rs j → FirstApplies rs k → j ≡ k
one_first [] j k f h = absurd f
one_first (r ∷ rs) j k (inl (p, e)) (inl (q, f)) = e ∙ sym f
one_first (r ∷ rs) j k (inl (p, e)) (inr (n, f)) = absurd (n p)
one_first (r ∷ rs) j k (inr (n, e)) (inl (q, f)) = absurd (n q)
one_first (r ∷ rs) j k (inr (n, e)) (inr (m, f)) = one_first rs j k e f

-- where no rule applies, none is the first
pub none_first : (rs : List Rule) (k : ℕ) → Passes rs → FirstApplies rs k → ⊥
none_first [] k n f = f
none_first (r ∷ rs) k n (inl (p, e)) = n.0 p
none_first (r ∷ rs) k n (inr (m, f)) = none_first rs k n.1 f

abbrev pub numbers_of : List Rule → List ℕ
numbers_of rs = map (λ (r : Rule). r.number) rs

-- the first has one of the rules' numbers
pub first_among : (rs : List Rule) (k : ℕ) → FirstApplies rs k → memb k (numbers_of rs) ≡ true
first_among [] k f = absurd f
first_among (r ∷ rs) k (inl (p, e)) = rw (eq-eqb k r.number e) refl
first_among (r ∷ rs) k (inr (n, f)) = rw (first_among rs k f) (or-true (eqb k r.number))

-- ---- a reply that they allow
module _ {A : Type 0} (G : A → Type 0) where
  -- rules that do not apply are passed
  pub past : (rs qs : List Rule) (a : Reply A) → Passes rs → Answered G (rs ++ qs) a → Answered G qs a
  past [] qs a n h = h
  past (r ∷ rs) qs (refuses k) n (inl (p, e)) = absurd (n.0 p)
  past (r ∷ rs) qs (refuses k) n (inr (m, h)) = past rs qs (refuses k) n.1 h
  past (r ∷ rs) qs (grants b) n h = past rs qs (grants b) n.1 (h.0.1, h.1)

  -- it is refused by the first that applies, and by nothing else
  pub refused_exactly : (rs : List Rule) (a : Reply A) → Answered G rs a → (k : ℕ) → (a ≡ refuses k) ↔ FirstApplies rs k
  refused_exactly rs (refuses j) h k =
      (λ e. let same : j ≡ k = cc in subst (FirstApplies rs) same h, λ f. ap refuses (one_first rs j k h f))
  refused_exactly rs (grants b) h k = (λ e. absurd (zero_one cc), λ f. absurd (none_first rs k h.0 f))

-- ---- the code's answers
pub passed_on : {A : Type 0} (r : Result A Refusal) (given e : Refusal) → IsErrAnd r (λ x. x ≡ given) → given ≡ e → numbered r ≡ refuses (number e)
passed_on (Ok a) given e told is = absurd told
passed_on (Err x) given e told is = ap (λ (y : Refusal). refuses (number y)) (told ∙ is)
