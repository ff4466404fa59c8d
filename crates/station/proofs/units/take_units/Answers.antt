-- A link still to come has the units; a turn takes them, and after the last link nothing is left to take.
use Rattle.std.proofs.Common.{arith, refl, ◌∙◌}
use Rattle.area.proofs.Taken.{enough_turn, enough_next, taken_turn, taken_end}
use Rattle.station.proofs.units.take_units.Goals as goal

pub loop-link-init : goal.loop-link-init
loop-link-init c = (c.requires.enough, refl)

pub overflow_sub-free : goal.overflow_sub-free
overflow_sub-free c =
    enough_next c.args.units c.args.path.now c.loop-link.free c.loop-link.link-index _ (omega arith) refl c.loop-link.invariant.0

pub loop-link-preserved : goal.loop-link-preserved
loop-link-preserved c =
    let u = c.args.units in
    let p = c.args.path.now in
    let j = c.loop-link.link-index in
    let fits = enough_next u p c.loop-link.free j _ (omega arith) refl c.loop-link.invariant.0 in (
      enough_turn u p c.loop-link.free j _ (omega arith) refl fits ∙ c.loop-link.invariant.0,
      taken_turn u p c.loop-link.free j _ (omega arith) refl ∙ c.loop-link.invariant.1,
    )

pub returns : goal.returns
returns c =
    taken_end c.args.units c.args.path.now c.loop-link.free c.loop-link.link-index (omega arith) ∙ c.loop-link.invariant.1
