-- The whole search: section 2.3 of the paper. A function of the network and the request alone.
-- Assumes nothing.
use Rattle.std.specs.Prelude.{ℕ, ◌*◌, cond, List}
use Rattle.std.proofs.Math.Option.{Option, none, some}
use Rattle.network.specs.Net.{Net}
use Rattle.network.specs.declared.Request.{Request}
use Rattle.network.specs.declared.answer.Reduction.{Reduction}
use Rattle.network.specs.declared.answer.Reduction.TheVariants.{One, Two}
use Rattle.network.specs.Reduce.{Outcome, no_path, no_solution, granted, problem_one, problem_two}
use Rattle.search.specs.Distance.{distance, somewhere}
use Rattle.search.specs.ebf.Solve.{solve}

-- what problem `which` answers
abbrev pub outcome_of : Reduction → Option (List ℕ) → Outcome
outcome_of which (some p) = granted which p
outcome_of which none = no_solution

-- the first answer, or where it is no solution the second
abbrev pub or_else : Outcome → Outcome → Outcome
or_else no_path b = no_path
or_else no_solution b = b
or_else (granted which p) b = granted which p

-- problem one, else problem two, at x
unfoldable pub tried : Net → Request → ℕ → Outcome
tried g r x =
    let second : Outcome = outcome_of Two (solve g (problem_two g r x) r.source r.target) in
    or_else (outcome_of One (solve g (problem_one g r x) r.source r.target)) second

-- x is the coefficient times the distance
unfoldable pub search : Net → Request → Outcome
search g r =
    let k : ℕ = distance g r.source r.target in
    let found : Outcome = tried g r (r.terms.coefficient * k) in
    cond (somewhere g k) found no_path
