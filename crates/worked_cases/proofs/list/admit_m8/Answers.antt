-- Row 8 is M8's.
use Rattle.cases.specs.Document01.{cases}
use Rattle.worked_cases.proofs.list.admit_m8.Goals as goal

pub returns : goal.returns
unfolding cases
returns c = rw (c.table.ensures) at c.call.ensures.area
