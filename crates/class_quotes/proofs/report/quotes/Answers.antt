-- A loaded area has nodes, so the one before the n-th is its last.
use Rattle.std.proofs.Common.{◌≡◌, ◌+◌, ◌-◌, ◌∙◌, arith, ap, sym}
use Rattle.area.specs.Load.{load_answer, area_loaded}
use Rattle.class_format.specs.Lines.{lines}
use Rattle.class_format.specs.Output.{blank}
use Rattle.class_format.proofs.Reported.{as_cut, some_nodes, load_refused, load_accepted}
use Rattle.class_quotes.proofs.report.quotes.Goals as goal

pub overflow_sub-n : goal.overflow_sub-n
unfolding blank
overflow_sub-n c =
    let cut = as_cut c.args.n c.args.links.now _ c.min-count.ensures in
    some_nodes c.args.n c.args.links.now (c.in-Ok.ensures.answer ∙ ap (load_answer blank) cut)

pub returns-in-Err : goal.returns-in-Err
unfolding blank
returns-in-Err c =
    let cut = as_cut c.args.n c.args.links.now _ c.min-count.ensures in
    c.refusal.ensures ∙ sym (load_refused c.args.n c.args.links.now _ (c.in-Err.ensures.answer ∙ ap (load_answer blank) cut))

pub returns-in-Ok : goal.returns-in-Ok
unfolding blank
returns-in-Ok c =
    let cut = as_cut c.args.n c.args.links.now _ c.min-count.ensures in
    let said = c.in-Ok.ensures.answer ∙ ap (load_answer blank) cut in
    let last : c.args.n - 1 + 1 ≡ c.args.n = omega (arith, some_nodes c.args.n c.args.links.now said) in
    c.lines.ensures
    ∙ ap (lines c.sample.result c.load.new.area) last
    ∙ sym (load_accepted c.args.n c.args.links.now _ _ said (c.in-Ok.ensures.area ∙ ap (area_loaded blank) cut) c.sample.ensures)
