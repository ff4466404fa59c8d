-- The costs below i are filled in.
use Rattle.std.proofs.Common.{◌≡◌, length}
use Rattle.network.specs.Limits.{most_links}
use Rattle.area.specs.Station.{table_in, cost_of}
use Rattle.area.proofs.Columns.{FilledTo}
use Rattle.station.proofs.formed.Station.put_costs.Given as goal

abbrev pub invariant-loop-i : goal.invariant-loop-i
invariant-loop-i l = record {
  whole : length l.costs ≡ most_links;
  filled : FilledTo 0 (cost_of (table_in l.self.area.now)) l.i l.costs;
}
