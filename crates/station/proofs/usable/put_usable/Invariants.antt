-- The flags below i are filled in.
use Rattle.std.proofs.Common.{◌≡◌, false, length, get_or}
use lib.Dec.{leb}
use Rattle.network.specs.Limits.{most_links}
use Rattle.area.proofs.Columns.{FilledTo}
use Rattle.station.proofs.usable.put_usable.Given as goal

abbrev pub invariant-loop-i : goal.invariant-loop-i
invariant-loop-i l = record {
  whole : length l.usable ≡ most_links;
  filled : FilledTo false (λ i. leb l.units (get_or l.free i 0)) l.i l.usable;
}
