-- The trace and the notes are those after `counter` turns, and the trace is on the table.
use Rattle.std.proofs.Common.{◌≡◌}
use Rattle.network.specs.Cut.{no_notes}
use Rattle.network.specs.Loops.{iter}
use Rattle.search.specs.ebf.Trace.{step_back}
use Rattle.search.specs.Solver.{net_in, problem_of}
use Rattle.search.specs.ebf.OnTable.{OnTable}
use Rattle.route.proofs.trace.trace.Given as goal

abbrev pub invariant-loop : goal.invariant-loop
invariant-loop l = record {
  is : (l.w, l.notes) ≡ iter (λ _. step_back (net_in l.p) (problem_of l.p) l.work l.s) l.counter (record { node = l.t; column = l.p.x }, no_notes);
  on : OnTable l.p l.w;
}
