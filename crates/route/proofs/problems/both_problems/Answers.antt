-- The first answer stands unless it is no solution; then the second one stands.
use Rattle.std.proofs.Common.{◌≡◌, rules}
use Rattle.std.specs.Prelude.{Err}
use Rattle.network.specs.declared.answer.NoRoute.TheVariants.{NoSolution}
use Rattle.search.proofs.Reductions.{first_answers, second_answers}
use Rattle.route.proofs.problems.both_problems.Goals as goal

-- a path stands nowhere
pub returns-in_default : goal.returns-in_default
returns-in_default c =
    let first = c.reduced_problem-first.ensures in
    let is = first_answers _ c.args.r c.args.x c.args.path.now _ _ (record { answer = first.answer; words = first.path }) (λ e. search rules) in
    record { answer = is.answer; path = is.words }

-- a grant
pub returns-in_default-2 : goal.returns-in_default-2
returns-in_default-2 c =
    let first = c.reduced_problem-first.ensures in
    let is = first_answers _ c.args.r c.args.x c.args.path.now _ _ (record { answer = first.answer; words = first.path }) (λ e. cc) in
    record { answer = is.answer; path = is.words }

pub returns : goal.returns
returns c =
    let first = c.reduced_problem-first.ensures in
    let second = c.reduced_problem.ensures in
    let lacks : c.reduced_problem-first.result ≡ Err NoSolution = search rules in
    let is =
    second_answers _ c.args.r c.args.x c.args.path.now _ _ (record { answer = first.answer; words = first.path }) lacks _ _
    (record { answer = second.answer; words = second.path }) in
    record { answer = is.answer; path = is.words }
