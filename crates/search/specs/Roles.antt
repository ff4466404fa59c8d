-- The two problems of a request as one: a weight that is kept and a weight that is scaled, each with its bound.
-- Assumes nothing.
use Rattle.std.specs.Prelude.{ℕ}
use Rattle.network.specs.Net.{Net}
use Rattle.network.specs.Problem.{Problem}
use Rattle.network.specs.Scale.{scaled}
use Rattle.network.specs.Reduce.{delay_bound, cost_bound, Outcome}
use Rattle.network.specs.declared.answer.Reduction.{Reduction}
use Rattle.network.specs.declared.answer.Reduction.TheVariants.{One, Two}
use Rattle.network.specs.declared.Request.{Request}
use Rattle.search.specs.ebf.Solve.{solve}
use Rattle.search.specs.Heuristic.{outcome_of}

-- what problem one has, or what problem two has in its place
abbrev pub by_problem : Reduction → ℕ → ℕ → ℕ
by_problem One one two = one
by_problem Two one two = two

-- problem one keeps the delay and scales the cost; problem two has the weights exchanged
abbrev pub kept_weight : Net → Reduction → ℕ → ℕ
kept_weight g which i = by_problem which (g.delay i) (g.cost i)

abbrev pub kept_bound : Request → Reduction → ℕ
kept_bound r which = by_problem which (delay_bound r) (cost_bound r)

abbrev pub other_weight : Net → Reduction → ℕ → ℕ
other_weight g which i = by_problem which (g.cost i) (g.delay i)

abbrev pub other_bound : Request → Reduction → ℕ
other_bound r which = by_problem which (cost_bound r) (delay_bound r)

-- the problem with its weights in these roles
unfoldable pub problem_by : Net → Request → ℕ → Reduction → Problem
problem_by g r x which =
    record {
      kept = kept_weight g which;
      bound = kept_bound r which;
      scaled_by = λ i. scaled x (other_bound r which) (other_weight g which i);
      x = x;
    }

-- what it answers
unfoldable pub outcome_by : Net → Request → ℕ → Reduction → Outcome
outcome_by g r x which = outcome_of which (solve g (problem_by g r x which) r.source r.target)
