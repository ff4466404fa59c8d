-- A number out of its range, or held at its place, is refused first, and then as many circuits as may be held.
use Rattle.std.proofs.Common.{arith, sym}
use Rattle.rules.proofs.CallCases.{fails_range, fails_held, fails_12, number_passes}
use Rattle.booking.proofs.checks.check_number.Goals.{then-not-number_in_range-via-then-not-number_in_range, then-not-number_in_range-via-else-not-number_in_range+then-holds}
use Rattle.booking.proofs.checks.check_number.Goals as goal

pub returns-then-not-number_in_range : goal.returns-then-not-number_in_range
returns-then-not-number_in_range c =
    let w = c.args.station.now.area.now in
    elim c.then-not-number_in_range.branch [
      | then-not-number_in_range-via-then-not-number_in_range b ↦ fails_range w c.args.number (sym b.if-not-number_in_range.ensures)
      | then-not-number_in_range-via-else-not-number_in_range+then-holds b ↦ fails_held w c.args.number (sym b.if-holds.ensures)
    ]

pub returns-then-held-ge-MOST_CIRCUITS : goal.returns-then-held-ge-MOST_CIRCUITS
returns-then-held-ge-MOST_CIRCUITS c =
    fails_12 c.args.station.now.area.now c.args.number (sym c.if-not-number_in_range.ensures) (sym c.if-holds.ensures) (omega arith)

pub returns : goal.returns
returns c =
    number_passes c.args.station.now.area.now c.args.number (sym c.if-not-number_in_range.ensures) (sym c.if-holds.ensures) (omega arith) _
    c.place_of-j.ensures
