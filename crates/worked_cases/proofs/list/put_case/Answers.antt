-- The row's call, on the area that the row names, replies as the row's line says.
use Rattle.worked_cases.proofs.CaseLines.{row_put}
use Rattle.worked_cases.proofs.list.put_case.Goals as goal

pub returns-clause-text : goal.returns-clause-text
returns-clause-text c =
    row_put c.args.row.now c.prepare.new.area (c.prepare.ensures.formed, c.prepare.ensures.station) _ _ _
    c.call-answer.ensures.answer c.call-answer.ensures.path _ _ _ c.put_name.ensures.text c.put_routed.ensures.text
