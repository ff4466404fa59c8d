-- No path where there is no distance, else both problems at the coefficient times the distance.
use Rattle.std.proofs.Common.{◌∙◌, sym, arith}
use Rattle.network.specs.Words.{net_of}
use Rattle.search.proofs.Reductions.{search_nowhere, search_somewhere, distance_below, x_below}
use Rattle.route.proofs.search.Goals as goal

pub returns-in_default : goal.returns-in_default
returns-in_default c =
    let is = search_nowhere _ c.args.r c.args.path.now (sym c.in_default.is ∙ c.distance.ensures) in
    record { answer = is.answer; path = is.words }

pub overflow_mul-x : goal.overflow_mul-x
unfolding net_of
overflow_mul-x c =
    let low = distance_below _ _ _ _ (sym c.in-Some.is ∙ c.distance.ensures) in
    let small = x_below c.args.r.terms.coefficient c.in-Some.far _ c.requires.terms.coefficient_most low c.args.net.now.table.nodes_most in
    omega (arith, small)

pub both_problems-requires-clause-x_le_most_x : goal.both_problems-requires-clause-x_le_most_x
unfolding net_of
both_problems-requires-clause-x_le_most_x c =
    let low = distance_below _ _ _ _ (sym c.in-Some.is ∙ c.distance.ensures) in
    x_below _ _ _ c.requires.terms.coefficient_most low c.args.net.now.table.nodes_most

pub returns : goal.returns
returns c =
    let both = c.both_problems.ensures in
    let is =
    search_somewhere _ c.args.r c.args.path.now _ (sym c.in-Some.is ∙ c.distance.ensures) _ _ (record { answer = both.answer; words = both.path }) in
    record { answer = is.answer; path = is.words }
