-- The hold times below v are filled in.
use Rattle.std.proofs.Common.{◌≡◌, length}
use Rattle.network.specs.Limits.{most_nodes}
use Rattle.area.specs.Station.{table_in}
use Rattle.area.specs.Books.{hold_into}
use Rattle.area.proofs.Columns.{FilledTo}
use Rattle.station.proofs.formed.Station.holds_into.Given as goal

abbrev pub invariant-loop-v : goal.invariant-loop-v
invariant-loop-v l = record {
  whole : length l.holds ≡ most_nodes;
  filled : FilledTo 0 (hold_into (table_in l.self.area.now) l.target) l.v l.holds;
}
