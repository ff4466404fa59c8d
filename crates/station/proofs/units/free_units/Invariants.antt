-- The places that were passed fit, and what is free and what is used come to each link's capacity.
use Rattle.area.proofs.CircuitUnits.{Passed}
use Rattle.station.proofs.units.free_units.Given as goal

abbrev pub invariant-loop-j : goal.invariant-loop-j
invariant-loop-j l = Passed l.table.links.count l.table.links.words.now l.places.area.now l.j l.free
