-- What is still to store, stored from here, comes to the same.
use Rattle.std.proofs.Common.{◌≡◌, ◌*◌, ◌-◌}
use Rattle.std.proofs.lemmas.List.Edits.{sets}
use Rattle.link_format.specs.Reading.{words_from}
use Rattle.network.specs.Limits.{link_words}
use Rattle.link_file.proofs.records.read_records.Given as goal

abbrev pub invariant-loop-i : goal.invariant-loop-i
invariant-loop-i l = sets l.to-items l.i (words_from l.records l.i (link_words * l.m - l.i)) ≡ sets l.initial.to-items 0 (words_from l.records 0 (link_words * l.m))
