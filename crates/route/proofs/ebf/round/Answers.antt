-- Each turn takes one more column, which leaves the settled columns before it as they were; where no other round is due,
-- every column is settled and a round changes nothing.
use Rattle.std.proofs.Common.{arith}
use Rattle.network.proofs.Loops.{iter_more, iter_done}
use Rattle.network.proofs.Tests.{by_eq}
use Rattle.search.specs.ebf.Table.{round}
use Rattle.search.specs.Solver.{problem_of}
use Rattle.search.proofs.ebf.Settled.{column_keeps, round_same}
use Rattle.route.proofs.ebf.round.Goals as goal

pub loop-k-preserved : goal.loop-k-preserved
loop-k-preserved c = record {
  risen = iter_more _ _ _ c.loop-k.invariant.risen c.relax_links-due.ensures.is;
  settled = λ e j low.
      let stated = c.relax_links-due.ensures.says e in
      by_eq j _ (λ here. rw here stated.0)
      (λ ne. rw c.relax_links-due.ensures.is (column_keeps _ _ _ _ _ (omega arith) (c.loop-k.invariant.settled stated.1 j (omega arith))));
}

pub returns-clause-is : goal.returns-clause-is
unfolding round problem_of
returns-clause-is c = iter_done _ _ _ _ c.loop-k.invariant.risen (omega arith)

pub returns-clause-says : goal.returns-clause-says
unfolding problem_of
returns-clause-says c = λ e. round_same _ _ _ (λ j low. c.loop-k.invariant.settled e j (omega (arith, low)))
