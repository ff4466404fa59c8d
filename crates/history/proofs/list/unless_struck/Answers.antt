-- It passes over a row just where the list does, and puts nothing there.
use Rattle.std.proofs.Common.{sym, ◌∙◌, arith}
use Rattle.call_list.proofs.CallCases.{skipped, called}
use Rattle.history.proofs.LineBytes.{row_skipped, row_called}
use Rattle.history.proofs.list.unless_struck.Goals as goal

pub returns-then-is_struck : goal.returns-then-is_struck
returns-then-is_struck c =
    let passed = sym c.is_struck.ensures ∙ c.if-is_struck.true in
    record {
      area = skipped c.args.struck c.args.k c.row_at-row.result c.row_at-row.ensures c.args.area.now passed;
      text = row_skipped c.args.struck c.args.k c.row_at-row.result c.row_at-row.ensures c.args.area.now passed c.args.text.now.items;
      most = omega arith;
    }

pub returns : goal.returns
returns c =
    let kept = sym c.is_struck.ensures ∙ c.if-is_struck.false in
    record {
      area = called c.args.struck c.args.k c.row_at-row.result c.row_at-row.ensures c.args.area.now c.put_row.new.area kept c.put_row.ensures.area;
      text = row_called c.args.struck c.args.k c.row_at-row.result c.row_at-row.ensures c.args.area.now kept _ _ c.put_row.ensures.text;
      most = omega arith;
    }
