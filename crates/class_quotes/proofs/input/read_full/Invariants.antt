-- The place stays within the buffer, and each turn that goes on moves it.
use Rattle.std.proofs.Common.{length, ◌-◌, ◌≤◌}
use Rattle.class_quotes.proofs.input.read_full.Given as goal

abbrev pub invariant-loop-done : goal.invariant-loop-done
invariant-loop-done g l = l.done ≤ length l.buffer

abbrev pub decreases-loop-done : goal.decreases-loop-done
decreases-loop-done g l = length l.initial.buffer - l.done
