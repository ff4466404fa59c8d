-- The table that the rounds leave is the model's, whatever work memory held before, and with it the answer.
use Rattle.std.proofs.Common.{◌≤◌, arith, length, rules}
use Rattle.network.specs.Limits.{work_words}
use Rattle.network.specs.Words.{net_of}
use Rattle.search.specs.Solver.{net_in}
use Rattle.search.proofs.ebf.Outcomes.{answers_none, answers_path}
use Rattle.route.proofs.attempt.attempt.Goals as goal

pub returns-then-p-work : goal.returns-then-p-work
returns-then-p-work c =
    let s_low = c.requires.nodes.0 in
    let t_low = c.requires.nodes.1 in
    let memory : work_words ≤ length c.args.work.now = search rules in
    let is =
    answers_none c.args.p.now _ s_low _ memory _ t_low c.ebf.ensures.is c.cell-at.ensures.is _ c.requires.edges c.args.which c.args.path.now c.if-p-work.true in
    record { answer = is.0; path = is.1 }

pub found-requires-clause-nodes : goal.found-requires-clause-nodes
unfolding net_in net_of
found-requires-clause-nodes c = (omega (arith, c.requires.edges.nodes), c.requires.nodes.1)

pub returns : goal.returns
returns c =
    let s_low = c.requires.nodes.0 in
    let t_low = c.requires.nodes.1 in
    let memory : work_words ≤ length c.args.work.now = search rules in
    let is =
    answers_path c.args.p.now _ s_low _ memory _ t_low c.ebf.ensures.is c.cell-at.ensures.is _ c.requires.edges c.args.which c.args.path.now c.if-p-work.false
    c.requires.path_words_in_bounds c.found.ensures.answer c.found.ensures.path in
    record { answer = is.0; path = is.1 }
