-- The loop is the definition's, turn by turn.
use Rattle.std.proofs.Common.{◌≡◌}
use Rattle.network.specs.Loops.{iter}
use Rattle.search.specs.Distance.{spread_link}
use Rattle.route.specs.Described.{described}
use Rattle.route.proofs.net.Network.spread.Given as goal

abbrev pub invariant-loop-i : goal.invariant-loop-i
invariant-loop-i l = l.more ≡ iter (spread_link (described l.self) l.set) l.i l.set
