-- The source's cells are those that lines 4 and 5 leave, as far as the loop has come.
use Rattle.std.proofs.Common.{◌≡◌, ◌*◌}
use Rattle.std.proofs.Math.ListN.{set}
use Rattle.network.specs.Loops.{iter}
use Rattle.search.specs.ebf.Table.{cell, source_number}
use Rattle.route.proofs.table.start.Given as goal

abbrev pub invariant-loop-i : goal.invariant-loop-i
invariant-loop-i l = l.work ≡ iter (λ k r. set r (2 * cell l.p.x l.s k) source_number) l.i l.initial.work
