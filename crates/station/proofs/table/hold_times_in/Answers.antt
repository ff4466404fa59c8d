-- The part of the area behind its circuits is the table's hold times.
use Rattle.area.proofs.TableCases.{holds_at}
use Rattle.station.proofs.table.hold_times_in.Goals as goal

pub returns : goal.returns
returns c = holds_at _ _ c.part.ensures
