-- At first there are none; a turn puts the next behind those before.
use Rattle.std.proofs.Common.{append-nil, arith}
use Rattle.worked_cases.proofs.CaseLines.{no_lines, lines_turn}
use Rattle.worked_cases.proofs.list.put_rows.Goals as goal

pub loop-row-init : goal.loop-row-init
loop-row-init c = record { text = simp (no_lines, append-nil); most = omega arith }

pub loop-row-preserved : goal.loop-row-preserved
loop-row-preserved c = record {
  text = lines_turn c.args.rows.now c.loop-row.row-index _ (omega arith) _ _ _ c.loop-row.invariant.text c.put_case.ensures.text;
  most = omega arith;
}
