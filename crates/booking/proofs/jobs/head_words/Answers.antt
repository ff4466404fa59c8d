-- What the reply is decides the words: a grant's numbers behind a 0, or a refusal's number and zeros.
use Rattle.area.specs.Refusals.{number}
use Rattle.rules.proofs.JobCases.{head_granted, head_refused}
use Rattle.booking.proofs.jobs.head_words.Goals as goal

pub returns-in-Ok : goal.returns-in-Ok
returns-in-Ok c a e = head_granted c.in-Ok.grant c.into.result c.into.ensures a (rw c.in-Ok.is at e)

pub returns-in-Err : goal.returns-in-Err
returns-in-Err c a e = head_refused (number c.in-Err.refusal) c.into-in-Err.result c.into-in-Err.ensures a (rw c.in-Err.is at e)
