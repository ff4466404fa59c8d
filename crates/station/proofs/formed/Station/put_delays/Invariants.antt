-- The delays below i are filled in.
use Rattle.std.proofs.Common.{◌≡◌, length}
use Rattle.network.specs.Limits.{most_links}
use Rattle.area.specs.Station.{table_in}
use Rattle.area.specs.Books.{delay_to}
use Rattle.area.proofs.Columns.{FilledTo}
use Rattle.station.proofs.formed.Station.put_delays.Given as goal

abbrev pub invariant-loop-i : goal.invariant-loop-i
invariant-loop-i l = record {
  whole : length l.delays ≡ most_links;
  filled : FilledTo 0 (delay_to (table_in l.self.area.now) l.target) l.i l.delays;
}
