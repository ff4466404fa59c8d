-- The lines of the classes so far are put; a line has 385 bytes at most.
use Rattle.std.proofs.Common.{◌≡◌, ◌+◌, ◌*◌, ◌≤◌}
use Rattle.arrayvec.specs.ArrayVec.{array_vec_len}
use Rattle.class_format.specs.Lines.{lines_from}
use Rattle.class_quotes.proofs.lines.Classes.lines.Given as goal

abbrev pub invariant-loop-k : goal.invariant-loop-k
invariant-loop-k l = record {
  text : l.text.items ≡ lines_from l.self.rows.now l.self.area.now (l.self.last + 1) 0 l.k;
  most : array_vec_len l.text ≤ 385 * l.k;
}
