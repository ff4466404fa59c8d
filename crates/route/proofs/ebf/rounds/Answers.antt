-- No round yet, one round more, and the last round.
use Rattle.std.proofs.Common.{arith}
use Rattle.network.proofs.Loops.{iter_none, iter_more}
use Rattle.search.proofs.ebf.Steps.{turned_all}
use Rattle.route.proofs.ebf.rounds.Goals as goal

pub loop-init : goal.loop-init
loop-init c = record { is = iter_none _ _ }

pub loop-preserved : goal.loop-preserved
loop-preserved c = record { is = iter_more _ _ _ c.loop.invariant.is c.round.ensures.is }

pub returns : goal.returns
returns c = turned_all _ _ _ _ c.loop.invariant (omega arith)
