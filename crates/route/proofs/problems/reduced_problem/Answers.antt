-- The reduced problem has the request's edges and its weights in their roles, so what it answers is the request's own answer.
use Rattle.std.proofs.Common.{arith}
use Rattle.network.specs.Words.{net_of}
use Rattle.search.specs.Solver.{net_in}
use Rattle.search.proofs.Reductions.{roles_answer}
use Rattle.route.proofs.problems.reduced_problem.Goals as goal

pub attempt-requires-clause-nodes : goal.attempt-requires-clause-nodes
unfolding net_in net_of
attempt-requires-clause-nodes c =
    let same = c.reduced-p.ensures.edges.nodes in
    (omega (arith, same, c.requires.ready.source), omega (arith, same, c.requires.ready.target))

pub returns : goal.returns
returns c =
    let is =
    roles_answer _ c.args.r c.args.x c.args.which _ c.reduced-p.ensures c.args.path.now _ _
    (record { answer = c.attempt.ensures.answer; words = c.attempt.ensures.path }) in
    record { answer = is.answer; path = is.words }
