-- The last return is the last way through the test of the definition.
use Rattle.search.proofs.ebf.Turn.{goes_back}
use Rattle.route.proofs.trace.step_back.Goals as goal

pub returns-clause-is : goal.returns-clause-is
returns-clause-is c =
    goes_back _ _ _ _ _ _ c.if-w-s.false c.kept_link-i.ensures c.if-p-i.false _ c.if-w-step.false c.note.ensures
