-- What the calls that are left do to the area at hand is what the whole list does to the first one, and the text with the
-- lines that are still to put behind it is the whole text. No line has more bytes than the longest.
use Rattle.std.proofs.Common.{◌≡◌, ◌-◌, ◌*◌, ◌≤◌, ◌++◌}
use Rattle.arrayvec.specs.ArrayVec.{array_vec_len}
use Rattle.ledger.specs.History.{area_at_end}
use Rattle.call_list.specs.Calls.{row_count, calls_from, calls}
use Rattle.history.specs.Lines.{line_bytes, text_from, run_text}
use Rattle.history.proofs.list.every_call.Given as goal

abbrev pub invariant-loop-k : goal.invariant-loop-k
invariant-loop-k l = record {
  area : area_at_end l.area (calls_from l.struck l.k (row_count - l.k)) ≡ area_at_end l.fn.area (calls l.struck);
  text : l.text.items ++ text_from l.struck l.area l.k (row_count - l.k) ≡ run_text l.struck l.fn.area;
  most : array_vec_len l.text ≤ line_bytes * l.k;
}
