-- The fields of the numbers so far are put, eleven bytes at most for each.
use Rattle.std.proofs.Common.{◌+◌, ◌*◌, ◌≤◌, take}
use Rattle.text_format.specs.Fields.{fields}
use Rattle.text.proofs.Behind.{Put}
use Rattle.text.proofs.lent.put_fields.Given as goal

abbrev pub invariant-loop-n : goal.invariant-loop-n
invariant-loop-n l = record {
  put : Put l.fn.text l.at (fields (take l.n-index l.numbers)) l.text l.end;
  most : l.end ≤ l.at + 11 * l.n-index;
}
