-- The laws of counted loops; at s no further turn changes the trace, so the turns that are left may be left out.
use Rattle.std.proofs.Common.{◌-◌, ap, arith, rules}
use Rattle.network.specs.Cut.{Notes}
use Rattle.network.proofs.Loops.{iter_none, iter_more, iter_done, iter_stays}
use Rattle.search.specs.declared.TracePlace.{TracePlace}
use Rattle.search.specs.ebf.Trace.{traced}
use Rattle.search.proofs.ebf.Trace.{step_home}
use Rattle.search.specs.Solver.{net_in, problem_of}
use Rattle.route.proofs.trace.trace.Goals as goal

pub loop-init : goal.loop-init
loop-init c = record { is = rw c.new-notes.ensures (iter_none _ _); on = search rules }

pub returns-then-w-s : goal.returns-then-w-s
unfolding traced net_in problem_of
returns-then-w-s c =
    let l = c.loop in
    ap (λ (st : TracePlace × Notes). st.1)
    (iter_done _ _ _ _ (iter_stays _ l.counter (c.cells-end.result - l.counter) _ _ l.invariant.is (λ _. step_home _ _ _ _ _ c.if-w-s.true))
    (omega arith))

pub loop-preserved : goal.loop-preserved
loop-preserved c = record {
  is = iter_more _ _ _ c.loop.invariant.is c.step_back-w.ensures.is;
  on = c.step_back-w.ensures.stays;
}

pub returns : goal.returns
unfolding traced net_in problem_of
returns c = ap (λ (st : TracePlace × Notes). st.1) (iter_done _ _ _ _ c.loop.invariant.is (omega arith))
