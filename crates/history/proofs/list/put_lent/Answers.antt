-- The parts that it lends are the words that the row is lent, since no row is lent more than the whole.
use Rattle.std.proofs.Common.{ap, ◌∙◌, ◌++◌, arith}
use Rattle.ledger.specs.History.{Lending, measured, area_after, given_to}
use Rattle.call_list.proofs.CallCases.{work_as, path_as, lent_as}
use Rattle.history.specs.Lines.{given_text}
use Rattle.history.proofs.list.put_lent.Goals as goal

pub returns : goal.returns
returns c =
    let lends = lent_as c.args.struck c.args.k c.args.memory c.args.asked _ _
    (work_as c.args.struck c.args.k c.args.memory c.work_lent-w.result c.work_filler-work.result c.work_lent-w.ensures.value c.work_filler-work.ensures)
    (path_as c.args.struck c.args.k c.args.memory c.path_lent-p.result c.buffer_filler-path.result c.path_lent-p.ensures.value c.buffer_filler-path.ensures) in
    record {
      area = c.put_call.ensures.area ∙ ap (λ (call : Lending). area_after c.args.area.now (measured call)) lends;
      text = c.put_call.ensures.text ∙ ap (λ (call : Lending). c.args.text.now.items ++ given_text (given_to c.args.area.now call)) lends;
      most = omega arith;
    }
