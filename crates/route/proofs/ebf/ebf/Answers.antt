-- The table is the paper's, since it is the model's.
use Rattle.std.proofs.Common.{◌≤◌, length, rules}
use Rattle.network.specs.Limits.{work_words}
use Rattle.search.specs.ebf.Table.{ebf}
use Rattle.search.proofs.ebf.Outcomes.{table_as_paper}
use Rattle.route.proofs.ebf.ebf.Goals as goal

pub returns-clause-paper : goal.returns-clause-paper
unfolding ebf
returns-clause-paper c =
    let memory : work_words ≤ length c.args.work.now = search rules in
    table_as_paper c.args.p.now _ c.requires.s_lt_nodes c.args.work.now memory (search (c.initialise.ensures, c.rounds.ensures))
