-- What is still to do comes to the same in every turn: of the path, from the node reached and with the nodes passed, and of the
-- units.
use Rattle.std.proofs.Common.{◌≡◌, drop}
use Rattle.area.specs.Formed.{onward, path_fits}
use Rattle.area.specs.Units.{enough, taken}
use Rattle.station.proofs.units.take.Given as goal

abbrev pub invariant-loop-link : goal.invariant-loop-link
invariant-loop-link l =
    (onward l.table.links.count l.table.links.words.now l.v l.seen (drop l.link-index l.link-items)
    ≡ path_fits l.table.links.count l.table.links.words.now l.link-items)
    × (enough l.circuit.units (drop l.link-index l.link-items) l.free ≡ enough l.circuit.units l.link-items l.initial.free)
    × (taken l.circuit.units (drop l.link-index l.link-items) l.free ≡ taken l.circuit.units l.link-items l.initial.free)
