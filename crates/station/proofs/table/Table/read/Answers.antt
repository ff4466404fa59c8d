-- The area's numbers are tested first, then its links, and both ends of each that fit are nodes; past them the hold times
-- decide.
use Rattle.std.proofs.Common.{arith, ◌∙◌}
use Rattle.std.proofs.lemmas.Grind.{common_steps}
use Rattle.area.proofs.TableCases.{numbers_out, link_out, holds_left, ends_low}
use Rattle.station.proofs.table.Table.read.Goals as goal

pub returns-then-not-contains-clause-fits : goal.returns-then-not-contains-clause-fits
returns-then-not-contains-clause-fits c = numbers_out c.args.area.now (grind (arith, common_steps))

pub returns-then-not-links_fit-clause-fits : goal.returns-then-not-links_fit-clause-fits
returns-then-not-links_fit-clause-fits c =
    link_out c.args.area.now (grind (arith, common_steps)) (omega arith) _ _ c.links_in-links.ensures.count c.links_in-links.ensures.words
    c.if-not-links_fit.ensures

pub returns-then-not-hold_times_fit-clause-fits : goal.returns-then-not-hold_times_fit-clause-fits
returns-then-not-hold_times_fit-clause-fits c =
    c.if-not-hold_times_fit.ensures
    ∙ holds_left c.args.area.now (grind (arith, common_steps)) (omega arith) _ _ c.links_in-links.ensures.count c.links_in-links.ensures.words
    c.if-not-links_fit.ensures _ c.hold_times_in.ensures

pub invariant_of-result : goal.invariant_of-result
invariant_of-result c =
    let ends =
    ends_low c.args.area.now (grind (arith, common_steps)) (omega arith) _ _ c.links_in-links.ensures.count c.links_in-links.ensures.words
    c.if-not-links_fit.ensures in
    record { from = λ i low. (ends i low).0; to = λ i low. (ends i low).1 }

pub returns-clause-fits : goal.returns-clause-fits
returns-clause-fits c =
    c.if-not-hold_times_fit.ensures
    ∙ holds_left c.args.area.now (grind (arith, common_steps)) (omega arith) _ _ c.links_in-links.ensures.count c.links_in-links.ensures.words
    c.if-not-links_fit.ensures _ c.hold_times_in.ensures
