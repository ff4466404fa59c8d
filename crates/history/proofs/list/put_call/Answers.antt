-- The text of the call that is asked for, by what the call itself ensures.
use Rattle.area.specs.Refusals.{numbered}
use Rattle.call_list.proofs.CallCases.{quoted, admitted}
use Rattle.history.proofs.LineBytes.{request_put}
use Rattle.history.proofs.list.put_call.Goals as goal
use Rattle.history.proofs.list.put_call.Goals.{in-Quote, in-Admission}

pub returns-clause-text : goal.returns-clause-text
returns-clause-text c =
    request_put (numbered c.match-asked.answer) c.match-asked.path _
    (elim c.match-asked.branch [
      | in-Quote w ↦
          rw (w.answer-is, w.path-is)
          (quoted c.args.area.now c.args.work.now c.args.path.now c.args.asked _ _ _ w.in-Quote.is
          w.quote-answer.ensures.answer w.quote-answer.ensures.path).0
      | in-Admission w ↦
          rw (w.answer-is, w.path-is)
          (admitted c.args.area.now c.args.work.now c.args.path.now c.args.asked _ _ _ _ w.in-Admission.is
          w.admit-answer.ensures.answer w.admit-answer.ensures.path _ w.admit-answer.ensures.area).0
    ])
    _ _ c.put_routed.ensures.text
