-- What is still to store, stored from here, comes to the same.
use Rattle.std.proofs.Common.{◌≡◌, ◌+◌, drop}
use Rattle.std.proofs.lemmas.List.Edits.{sets}
use Rattle.station.proofs.layout.put.Given as goal

abbrev pub invariant-loop-i : goal.invariant-loop-i
invariant-loop-i l = sets l.area (l.at + l.i) (drop l.i l.words) ≡ sets l.initial.area l.at l.words
