-- The two problems that a request is reduced to, and what a search may find.
-- Assumes nothing.
use Rattle.std.specs.Prelude.{ℕ, ◌*◌, ◌≤◌, ◌⊎◌, List, length}
use Rattle.network.specs.Ranges.{TermsFit}
use Rattle.network.specs.declared.Request.{Request}
use Rattle.network.specs.declared.Terms.{Terms}
use Rattle.network.specs.declared.answer.Reduction.{Reduction}
use Rattle.network.specs.declared.answer.Reduction.TheVariants.{One, Two}
use Rattle.network.specs.Net.{Net, sum}
use Rattle.network.specs.Scale.{scaled, Overqualified}
use Rattle.network.specs.Problem.{Problem, Best, NoPath, NoSolution, Distance}

-- document 01's D and C
abbrev pub delay_bound : Request → ℕ
delay_bound r = r.terms.delay_bound

abbrev pub cost_bound : Request → ℕ
cost_bound r = r.terms.cost_bound

-- what it asks for, whatever its nodes, is in document 01's ranges
abbrev pub TermsInRange : Request → Type 0
TermsInRange r = TermsFit r.terms

-- what a job of these numbers asks for: b, D, C and the coefficient
abbrev pub asks : ℕ → ℕ → ℕ → ℕ → Terms
asks b d c f = record { units = b; delay_bound = d; cost_bound = c; coefficient = f }

-- the request of these numbers, in document 01's order: s, t, b, D, C and the coefficient
abbrev pub asking : ℕ → ℕ → ℕ → ℕ → ℕ → ℕ → Request
asking s t b d c f =
    record { source = s; target = t; terms = asks b d c f }

-- document 01's number for each problem
abbrev pub problem_number : Reduction → ℕ
problem_number One = 1
problem_number Two = 2

-- problem one: delay is kept, cost is scaled
unfoldable pub problem_one : Net → Request → ℕ → Problem
problem_one g r x =
    record { kept = g.delay; bound = delay_bound r; scaled_by = λ i. scaled x (cost_bound r) (g.cost i); x = x }

-- problem two: cost is kept, delay is scaled
unfoldable pub problem_two : Net → Request → ℕ → Problem
problem_two g r x =
    record { kept = g.cost; bound = cost_bound r; scaled_by = λ i. scaled x (delay_bound r) (g.delay i); x = x }

-- both original bounds
pub record WithinBounds (g : Net) (r : Request) (p : List ℕ) : Type 0 where
  pub delay : sum g.delay p ≤ delay_bound r
  pub cost : sum g.cost p ≤ cost_bound r

-- the paper's heuristic conditions one and two at distance k: one weight within its bound, the other overqualified. They
-- are printed with 1/x; document 01 holds Theorem 2's (l − 1)/x, as `Overqualified` has it
abbrev pub Enough : Net → Request → ℕ → List ℕ → Type 0
Enough g r k p =
    ((sum g.delay p ≤ delay_bound r) × Overqualified (r.terms.coefficient * k) (cost_bound r) (length p) (sum g.cost p))
    ⊎ ((sum g.cost p ≤ cost_bound r) × Overqualified (r.terms.coefficient * k) (delay_bound r) (length p) (sum g.delay p))

-- a search ends with no path, with no solution, or with the path that a problem granted
pub data Outcome : Type 0 where
  no_path : Outcome
  no_solution : Outcome
  granted : (problem : Reduction) → (path : List ℕ) → Outcome

module _ (g : Net) (r : Request) where
  -- both problems where the distance is k: x = coefficient × k
  abbrev pub one : ℕ → Problem
  one k = problem_one g r (r.terms.coefficient * k)

  abbrev pub two : ℕ → Problem
  two k = problem_two g r (r.terms.coefficient * k)

  -- what a search must find: the second problem counts only where the first has no solution
  pub data Found : Outcome → Type 0 where
    none : NoPath g r.source r.target → Found no_path
    unsolved : (k : ℕ) → Distance g r.source r.target k → NoSolution g (one k) r.source r.target
        → NoSolution g (two k) r.source r.target
        → Found no_solution
    by_one : (k : ℕ) (p : List ℕ) → Distance g r.source r.target k → Best g (one k) r.source r.target p
        → Found (granted One p)
    by_two : (k : ℕ) (p : List ℕ) → Distance g r.source r.target k → NoSolution g (one k) r.source r.target
        → Best g (two k) r.source r.target p
        → Found (granted Two p)
