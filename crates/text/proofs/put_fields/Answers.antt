-- At first there are none; a turn puts the next behind those before.
use Rattle.std.proofs.Common.{append_assoc, append-nil, arith}
use Rattle.text_format.proofs.Puts.{no_fields, fields_turn}
use Rattle.text.proofs.put_fields.Goals as goal

pub loop-n-init : goal.loop-n-init
loop-n-init g c = record { text = simp (no_fields, append-nil); most = omega arith }

pub loop-n-preserved : goal.loop-n-preserved
loop-n-preserved g c = record {
  text = simp (c.put_field.ensures.text, c.loop-n.invariant.text, append_assoc, fields_turn c.args.numbers.now c.loop-n.n-index (omega arith));
  most = omega arith;
}
