-- Past k jobs the area, the answer buffer and the free units are those that the first k jobs leave.
use Rattle.std.proofs.Common.{length}
use Rattle.rules.proofs.JobCases.{Reached}
use Rattle.booking.proofs.jobs.admit_jobs.Given as goal

abbrev pub invariant-loop-k : goal.invariant-loop-k
invariant-loop-k l = Reached l.fn.area (length l.fn.work) l.fn.jobs l.fn.answers l.k l.area l.answers l.free
