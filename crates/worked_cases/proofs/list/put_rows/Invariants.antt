-- The lines of the rows so far are appended; a line has 500 bytes at most.
use Rattle.std.proofs.Common.{◌≡◌, ◌+◌, ◌*◌, ◌≤◌, ◌++◌, take}
use Rattle.arrayvec.specs.ArrayVec.{array_vec_len}
use Rattle.worked_cases.specs.Lines.{row_lines}
use Rattle.worked_cases.proofs.list.put_rows.Given as goal

abbrev pub invariant-loop-row : goal.invariant-loop-row
invariant-loop-row l = record {
  text : l.text.items ≡ l.fn.text.items ++ row_lines (take l.row-index l.rows);
  most : array_vec_len l.text ≤ array_vec_len l.fn.text + 500 * l.row-index;
}
