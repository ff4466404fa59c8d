-- The free units that the check found are the area's.
use Rattle.std.proofs.Common.{arith, ap, ◌∙◌}
use Rattle.area.specs.Refusals.{grants}
use Rattle.area.proofs.Refusals.{passed_on}
use Rattle.area.proofs.ReadCases.{free_unfit, free_past, free_value}
use Rattle.station.proofs.reads.free_units.Goals as goal

pub returns-in_err-free : goal.returns-in_err-free
returns-in_err-free c =
    passed_on c.from_residual.result _ _ c.from_residual.ensures.1 c.in_err-free.ensures.refused
    ∙ free_unfit c.args.area.now c.args.link c.in_err-free.ensures.formed

pub returns-then-links-i : goal.returns-then-links-i
returns-then-links-i c =
    let count = c.links.ensures.count in
    free_past c.args.area.now c.args.link c.in_ok-free.ensures.formed (omega arith)

pub returns : goal.returns
returns c =
    let count = c.links.ensures.count in
    ap grants (c.in_ok-free.ensures.units c.args.link)
    ∙ free_value c.args.area.now c.args.link c.in_ok-free.ensures.formed (omega arith)
