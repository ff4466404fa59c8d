-- All links were tried, and where no other round is due, each of them is settled.
use Rattle.std.proofs.Common.{arith}
use Rattle.network.proofs.Loops.{iter_done}
use Rattle.search.specs.Solver.{net_in}
use Rattle.search.specs.ebf.Table.{column}
use Rattle.route.proofs.ebf.relax_links.Goals as goal

pub returns-clause-is : goal.returns-clause-is
unfolding column net_in
returns-clause-is c = iter_done _ _ _ _ c.loop-i.invariant.tried (omega arith)

pub returns-clause-says : goal.returns-clause-says
unfolding net_in
returns-clause-says c = λ e.
    let settled = c.loop-i.invariant.settled e in
    (λ j low. settled j (omega (arith, low)), c.loop-i.invariant.handed e)
