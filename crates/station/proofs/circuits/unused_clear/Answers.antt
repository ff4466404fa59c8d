-- A word of the path is passed over, one past it is put to the others; after the last they are 0 just where each is.
use Rattle.std.proofs.Common.{arith, refl}
use Rattle.network.specs.Loops.{every}
use Rattle.station.proofs.Unused.{used_passed, unused_put, unused_all}
use Rattle.station.proofs.circuits.unused_clear.Goals.{then-k-count, else-k-count}
use Rattle.station.proofs.circuits.unused_clear.Goals as goal

pub loop-k-init : goal.loop-k-init
unfolding every
loop-k-init c = refl

pub loop-k-preserved : goal.loop-k-preserved
loop-k-preserved c =
    let w = c.args.words.now in
    elim c.if-k-count.branch [
      | then-k-count b ↦ rw b.left-is (used_passed w c.loop-k.left c.loop-k.k c.loop-k.invariant (omega (arith, b.if-k-count)))
      | else-k-count b ↦ rw b.left-is (unused_put w c.loop-k.left c.loop-k.k c.loop-k.invariant (omega (arith, b.if-k-count)))
    ]

pub returns : goal.returns
returns c = unused_all c.args.words.now c.loop-k.left c.loop-k.k c.loop-k.invariant (omega arith)
