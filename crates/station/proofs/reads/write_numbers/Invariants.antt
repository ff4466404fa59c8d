-- What is still to store, stored from here, comes to the same.
use Rattle.std.proofs.Common.{◌≡◌, ◌-◌}
use Rattle.std.proofs.lemmas.List.Edits.{sets}
use Rattle.network.specs.Lists.{from}
use Rattle.area.specs.Held.{number_at}
use Rattle.station.proofs.reads.write_numbers.Given as goal

abbrev pub invariant-loop-j : goal.invariant-loop-j
invariant-loop-j l =
    sets l.numbers l.j (from (number_at l.places.area.now) l.j (l.places.count - l.j))
    ≡ sets l.initial.numbers 0 (from (number_at l.places.area.now) 0 l.places.count)
