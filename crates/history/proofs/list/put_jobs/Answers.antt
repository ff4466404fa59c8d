-- The text of the call's answer, by what the call itself ensures.
use Rattle.area.specs.Refusals.{numbered}
use Rattle.call_list.proofs.CallCases.{jobs_made}
use Rattle.call_list.specs.Calls.{jobs}
use Rattle.history.proofs.LineBytes.{jobs_put}
use Rattle.history.proofs.list.put_jobs.Goals as goal

pub returns-clause-text : goal.returns-clause-text
unfolding jobs
returns-clause-text c =
    jobs_put (numbered c.admit_jobs-answer.result) c.admit_jobs-answer.new.answers _
    (jobs_made c.args.area.now c.args.work.now c.args.answers.now _ _ c.admit_jobs-answer.ensures.answer c.admit_jobs-answer.ensures.answers)
    _ _ c.words_answered.ensures c.min-words.ensures _ _ c.put_jobs.ensures.text
