-- At first there are none; a turn puts the next behind those before.
use Rattle.std.proofs.Common.{refl, arith}
use Rattle.text_format.proofs.Puts.{no_fields}
use Rattle.text.proofs.Behind.{fields_behind}
use Rattle.text.proofs.lent.put_fields.Goals as goal

pub loop-n-init : goal.loop-n-init
loop-n-init c = record { put = rw no_fields (omega arith, refl); most = omega arith }

pub loop-n-preserved : goal.loop-n-preserved
loop-n-preserved c = record {
  put = fields_behind c.args.text.now c.loop-n.text _ c.args.numbers.now c.loop-n.n-index c.args.at c.loop-n.end _ (omega arith)
      c.loop-n.invariant.put (c.put_field-end.ensures.end, c.put_field-end.ensures.text);
  most = omega arith;
}
