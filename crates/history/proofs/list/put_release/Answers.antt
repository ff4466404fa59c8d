-- The text of a release's answer, by what the release ensures.
use Rattle.std.proofs.Common.{ap}
use Rattle.ledger.specs.History.{of_release}
use Rattle.history.proofs.LineBytes.{release_put}
use Rattle.history.proofs.list.put_release.Goals as goal

pub returns-clause-text : goal.returns-clause-text
returns-clause-text c = release_put _ _ (ap of_release c.release-released.ensures.answer) _ _ c.put_answer.ensures.text
