-- At first there is none; a turn puts the next behind those before.
use Rattle.std.proofs.Common.{sym, arith, rules}
use Rattle.class_format.proofs.LineBytes.{no_lines, lines_turn}
use Rattle.class_quotes.proofs.lines.Classes.lines.Goals as goal

pub loop-k-init : goal.loop-k-init
loop-k-init c = record { text = rw no_lines c.new-text.ensures; most = search rules }

pub loop-k-preserved : goal.loop-k-preserved
loop-k-preserved c = record {
  text = rw (lines_turn, sym c.loop-k.invariant.text) c.put_class.ensures.text;
  most = omega arith;
}
