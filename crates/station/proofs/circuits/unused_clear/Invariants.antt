-- What was put together is 0 just where each word that was passed fits.
use Rattle.std.proofs.Common.{◌≡◌, eqb}
use Rattle.network.specs.Loops.{every}
use Rattle.area.proofs.Formed.{clear_at}
use Rattle.station.proofs.circuits.unused_clear.Given as goal

abbrev pub invariant-loop-k : goal.invariant-loop-k
invariant-loop-k l = eqb l.left 0 ≡ every (clear_at l.words) l.k
