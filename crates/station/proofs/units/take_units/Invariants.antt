-- What is still to take comes to the same in every turn, and the links still to come have the units.
use Rattle.std.proofs.Common.{◌≡◌, true, drop}
use Rattle.area.specs.Units.{enough, taken}
use Rattle.station.proofs.units.take_units.Given as goal

abbrev pub invariant-loop-link : goal.invariant-loop-link
invariant-loop-link l =
    (enough l.units (drop l.link-index l.path) l.free ≡ true)
    × (taken l.units (drop l.link-index l.path) l.free ≡ taken l.units l.path l.initial.free)
