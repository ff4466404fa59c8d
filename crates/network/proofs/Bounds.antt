-- Theorems 1 and 2 for a request: a solution of either problem meets both bounds, because scaling rounds up, and a path
-- that is overqualified in the scaled weight is a solution, because rounding adds less than one for each link.
-- Assumes nothing.
use mathlib.Core.Path.{◌≡◌, refl, subst}
use mathlib.Core.Logic.{⊎_elim}
use mathlib.Core.List.{List, [], ◌∷◌}
use Prim.Native.Nat.{ℕ, ◌*◌, ◌≤◌, ◌<◌}
use native.Mathlib.Nat.{mul-le-mul}
use native.Mathlib.Omega.{arith}
use lib.ListN.{length}
use Rattle.network.specs.declared.Request.{Request}
use Rattle.network.specs.declared.answer.Reduction.{Reduction}
use Rattle.network.specs.declared.answer.Reduction.TheVariants.{One, Two}
use Rattle.network.specs.Net.{Net, IsPath, sum}
use Rattle.network.specs.Scale.{scaled, Overqualified}
use Rattle.network.specs.Problem.{Problem, Solves, Distance}
use Rattle.network.specs.Reduce.{delay_bound, cost_bound, problem_one, problem_two, WithinBounds, Enough, Outcome, no_path, no_solution, granted, Found, none, unsolved, by_one, by_two}
use Rattle.network.proofs.Scaling.{theorem_one, theorem_two, weightless_path}

-- ---- the distance
-- a path between two nodes has a link, so x is at least 1
pub x_positive : (g : Net) (s t k c : ℕ) → (s ≡ t → ⊥) → 0 < c → Distance g s t k → 0 < c * k
x_positive g s t k c differ pos far = go far.reached.0 far.reached.1 far.reached.2
  where
    go : (p : List ℕ) → IsPath g s t p → length p ≡ k → 0 < c * k
    go [] h e = absurd (differ h.walk)
    go (i ∷ p) h e = mul-le-mul {n₁ = 1} {m₁ = 1} pos (omega arith)

-- two nodes have one distance
pub one_distance : (g : Net) (s t k k' : ℕ) → Distance g s t k → Distance g s t k' → k ≡ k'
one_distance g s t k k' far far' =
    omega (arith, far.fewest _ far'.reached.1, far'.fewest _ far.reached.1, far.reached.2, far'.reached.2)

-- ---- one problem
-- a weight kept with its bound, and another scaled by x and its own bound
abbrev reduced_by : (ℕ → ℕ) → ℕ → (ℕ → ℕ) → ℕ → ℕ → Problem
reduced_by kept bound weight limit x = record { kept = kept; bound = bound; scaled_by = λ i. scaled x limit (weight i); x = x }

module _ (g : Net) (kept : ℕ → ℕ) (bound : ℕ) (weight : ℕ → ℕ) (limit x s t : ℕ) (p : List ℕ) where
  -- Theorem 1
  solution_within : 0 < x → Solves g (reduced_by kept bound weight limit x) s t p → sum weight p ≤ limit
  solution_within some h = theorem_one x weight some limit p h.reduced

  -- Theorem 2
  overqualified_solves : 0 < x → IsPath g s t p → sum kept p ≤ bound → Overqualified x limit (length p) (sum weight p)
      → Solves g (reduced_by kept bound weight limit x) s t p
  overqualified_solves some path low over =
      record { path = path; within = low; reduced = theorem_two x weight some limit p over }

  -- with a bound of 0 no path within both bounds is passed over: it has none of that weight, and nothing is not rounded up
  weightless_solves : limit ≡ 0 → IsPath g s t p → sum kept p ≤ bound → sum weight p ≤ limit
      → Solves g (reduced_by kept bound weight limit x) s t p
  weightless_solves nought path low light =
      record { path = path; within = low; reduced = omega (arith, weightless_path x weight limit p (omega arith)) }

-- ---- the problems of a request
module _ (g : Net) (r : Request) (x : ℕ) (p : List ℕ) (some : 0 < x) where
  pub solution_one_within : Solves g (problem_one g r x) r.source r.target p → WithinBounds g r p
  unfolding problem_one
  solution_one_within h =
      record { delay = h.within; cost = solution_within g g.delay (delay_bound r) g.cost (cost_bound r) x _ _ p some h }

  pub solution_two_within : Solves g (problem_two g r x) r.source r.target p → WithinBounds g r p
  unfolding problem_two
  solution_two_within h =
      record { delay = solution_within g g.cost (cost_bound r) g.delay (delay_bound r) x _ _ p some h; cost = h.within }

  pub overqualified_solves_one : IsPath g r.source r.target p → sum g.delay p ≤ delay_bound r
      → Overqualified x (cost_bound r) (length p) (sum g.cost p)
      → Solves g (problem_one g r x) r.source r.target p
  unfolding problem_one
  overqualified_solves_one path low over =
      overqualified_solves g g.delay (delay_bound r) g.cost (cost_bound r) x _ _ p some path low over

  pub overqualified_solves_two : IsPath g r.source r.target p → sum g.cost p ≤ cost_bound r
      → Overqualified x (delay_bound r) (length p) (sum g.delay p)
      → Solves g (problem_two g r x) r.source r.target p
  unfolding problem_two
  overqualified_solves_two path low over =
      overqualified_solves g g.cost (cost_bound r) g.delay (delay_bound r) x _ _ p some path low over

-- ---- a request with a bound of 0
module _ (g : Net) (r : Request) (x : ℕ) (p : List ℕ) where
  pub costless_solves_one : cost_bound r ≡ 0 → IsPath g r.source r.target p → WithinBounds g r p
      → Solves g (problem_one g r x) r.source r.target p
  unfolding problem_one
  costless_solves_one nought path h =
      weightless_solves g g.delay (delay_bound r) g.cost (cost_bound r) x _ _ p nought path h.delay h.cost

  -- so a job that may cost nothing is never granted by problem two
  pub costless_by_one : 0 < x → cost_bound r ≡ 0 → Solves g (problem_two g r x) r.source r.target p
      → Solves g (problem_one g r x) r.source r.target p
  costless_by_one some nought h = costless_solves_one nought h.path (solution_two_within g r x p some h)

  pub delayless_solves_two : delay_bound r ≡ 0 → IsPath g r.source r.target p → WithinBounds g r p
      → Solves g (problem_two g r x) r.source r.target p
  unfolding problem_two
  delayless_solves_two nought path h =
      weightless_solves g g.cost (cost_bound r) g.delay (delay_bound r) x _ _ p nought path h.cost h.delay

-- ---- what a search found
-- the path of a grant meets both bounds
abbrev Bounded : Net → Request → Outcome → Type 0
Bounded g r no_path = Unit
Bounded g r no_solution = Unit
Bounded g r (granted which p) = WithinBounds g r p

module _ (g : Net) (r : Request) (positive : 0 < r.terms.coefficient) (differ : r.source ≡ r.target → ⊥) where
  -- a request's x is at least 1
  pub x_some : (k : ℕ) → Distance g r.source r.target k → 0 < r.terms.coefficient * k
  x_some k far = x_positive g _ _ k _ differ positive far

  bounded : (o : Outcome) → Found g r o → Bounded g r o
  bounded o (none h) = tt
  bounded o (unsolved k far h h') = tt
  bounded o (by_one k p far best) = solution_one_within g r (r.terms.coefficient * k) p (x_some k far) best.solves
  bounded o (by_two k p far h best) = solution_two_within g r (r.terms.coefficient * k) p (x_some k far) best.solves

  -- a granted path meets both bounds
  pub found_within : (o : Outcome) → Found g r o → (which : Reduction) (p : List ℕ) → o ≡ granted which p → WithinBounds g r p
  found_within o found which p e = subst (Bounded g r) e (bounded o found)

  -- a path that meets one of the paper's two conditions is enough for a grant
  pub found_enough : (o : Outcome) → Found g r o → (k : ℕ) → Distance g r.source r.target k
      → (p : List ℕ) → IsPath g r.source r.target p → Enough g r k p
      → (w : Reduction) × (path : List ℕ) × (o ≡ granted w path)
  found_enough o (none h) k far p path enough = absurd (h p path)
  found_enough o (unsolved k' far' h h') k far p path enough =
      let same : k ≡ k' = one_distance g _ _ k k' far far' in
      absurd
      (⊎_elim (λ q. h p (overqualified_solves_one g r (r.terms.coefficient * k') p (x_some k' far') path q.0 (rw same at q.1)))
      (λ q. h' p (overqualified_solves_two g r (r.terms.coefficient * k') p (x_some k' far') path q.0 (rw same at q.1))) enough)
  found_enough o (by_one k' p' far' best) k far p path enough = (One, p', refl)
  found_enough o (by_two k' p' far' h best) k far p path enough = (Two, p', refl)
