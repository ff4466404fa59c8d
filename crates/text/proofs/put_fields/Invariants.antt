-- The fields of the numbers so far are put, eleven bytes at most for each.
use Rattle.std.proofs.Common.{◌≡◌, ◌+◌, ◌*◌, ◌≤◌, ◌++◌, take}
use Rattle.arrayvec.specs.ArrayVec.{array_vec_len}
use Rattle.text_format.specs.Fields.{fields}
use Rattle.text.proofs.put_fields.Given as goal

abbrev pub invariant-loop-n : goal.invariant-loop-n
invariant-loop-n g l = record {
  text : l.text.items ≡ l.fn.text.items ++ fields (take l.n-index l.numbers);
  most : array_vec_len l.text ≤ array_vec_len l.fn.text + 11 * l.n-index;
}
