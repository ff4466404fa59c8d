-- At first the whole list and the whole text are left; a turn makes the next row's call; at the end nothing is left.
use Rattle.std.proofs.Common.{refl, ap, arith, rules, ◌∙◌, ◌++◌, List, ℕ}
use Rattle.call_list.specs.Calls.{row_count, calls}
use Rattle.call_list.proofs.CallCases.{fewer, none_left}
use Rattle.history.specs.Lines.{text_from}
use Rattle.history.proofs.LineBytes.{text_none, text_turn, text_end}
use Rattle.history.proofs.list.every_call.Goals as goal

pub loop-k-init : goal.loop-k-init
unfolding calls
loop-k-init c = record {
  area = refl;
  text = ap (λ (l : List ℕ). l ++ text_from c.args.struck c.args.area.now 0 row_count) c.new-text.ensures ∙ text_none c.args.struck c.args.area.now;
  most = search rules;
}

pub loop-k-preserved : goal.loop-k-preserved
loop-k-preserved c = record {
  area = fewer c.args.struck c.loop-k.k c.loop-k.area c.unless_struck.new.area _ (omega arith) c.loop-k.invariant.area c.unless_struck.ensures.area;
  text = text_turn c.args.struck c.loop-k.k c.loop-k.area _ _ _ _ (omega arith) c.unless_struck.ensures.area
      c.unless_struck.ensures.text c.loop-k.invariant.text;
  most = omega arith;
}

pub returns : goal.returns
returns c = record {
  area = none_left c.args.struck c.loop-k.k c.loop-k.area _ (omega arith) c.loop-k.invariant.area;
  text = text_end c.args.struck c.loop-k.k c.loop-k.area _ _ (omega arith) c.loop-k.invariant.text;
}
