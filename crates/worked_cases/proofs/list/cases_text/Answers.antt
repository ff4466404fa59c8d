-- The lines of the table's rows are document 01's, since the rows are.
use Rattle.std.proofs.Common.{ap₂, ◌∙◌, ◌++◌}
use Rattle.worked_cases.proofs.CaseLines.{table_lines}
use Rattle.worked_cases.proofs.list.cases_text.Goals as goal

pub returns : goal.returns
returns c = c.put_rows.ensures ∙ ap₂ ◌++◌ c.new-text.ensures (table_lines _ c.table.ensures)
