-- A link that goes on and has enough leaves the rest of the path to do; one that does not go on, or has too few, decides; after
-- the last nothing is left to do.
use mathlib.Core.Bool.{and-false}
use Rattle.std.proofs.Common.{arith, refl, ◌∙◌}
use Rattle.area.specs.Formed.{path_fits}
use Rattle.area.proofs.Onward.{link_inside, start_past, path_begins, path_goes, path_stops, path_ends}
use Rattle.area.proofs.Taken.{enough_turn, taken_turn, enough_short, enough_end, taken_end}
use Rattle.station.proofs.units.take.Goals.{then-not-goes_on-via-then-not-goes_on, then-not-goes_on-via-else-not-goes_on+then-free-i}
use Rattle.station.proofs.units.take.Goals as goal

pub returns-then-table-start-clause-fits : goal.returns-then-table-start-clause-fits
returns-then-table-start-clause-fits c =
    let out = start_past c.args.table.now.links.count c.args.table.now.links.words.now c.args.circuit.now.path.now c.args.circuit.now.some (omega arith) in
    rw (← out) refl

pub loop-link-init : goal.loop-link-init
loop-link-init c = (
  path_begins _ _ c.args.circuit.now.path.now _ _ _ c.args.circuit.now.some c.get-v.ensures.from c.new.ensures c.with-seen.ensures,
  refl,
  refl,
)

pub bounds-free-i : goal.bounds-free-i
bounds-free-i c =
    let inside = link_inside _ c.args.table.now.links.words.now c.loop-link.v c.loop-link.seen _ c.if-not-goes_on.ensures in
    omega (arith, inside, c.args.table.now.links.few)

pub returns-then-not-goes_on-clause-fits : goal.returns-then-not-goes_on-clause-fits
returns-then-not-goes_on-clause-fits c =
    let m = c.args.table.now.links.count in
    let words = c.args.table.now.links.words.now in
    let p = c.args.circuit.now.path.now in
    let u = c.args.circuit.now.units in
    elim c.then-not-goes_on.branch [
      | then-not-goes_on-via-then-not-goes_on b ↦
          let out = path_stops m words p c.loop-link.link-index _ _ c.loop-link.invariant.0 (omega arith) b.if-not-goes_on.ensures in
          rw (← out) refl
      | then-not-goes_on-via-else-not-goes_on+then-free-i b ↦
          let out = enough_short u p c.loop-link.free c.loop-link.link-index _ (omega arith) refl (omega (arith, b.if-free-i)) ∙ c.loop-link.invariant.1 in
          rw (← out, and-false (path_fits m words p)) refl
    ]

pub bounds-free-i-in-loop-link : goal.bounds-free-i-in-loop-link
bounds-free-i-in-loop-link c =
    let inside = link_inside _ c.args.table.now.links.words.now c.loop-link.v c.loop-link.seen _ c.if-not-goes_on.ensures in
    omega (arith, inside, c.args.table.now.links.few)

pub bounds-free-i-in-loop-link-2 : goal.bounds-free-i-in-loop-link-2
bounds-free-i-in-loop-link-2 c =
    let inside = link_inside _ c.args.table.now.links.words.now c.loop-link.v c.loop-link.seen _ c.if-not-goes_on.ensures in
    omega (arith, inside, c.args.table.now.links.few)

pub get-v-requires-in-loop-link : goal.get-v-requires-in-loop-link
get-v-requires-in-loop-link c = link_inside _ c.args.table.now.links.words.now c.loop-link.v c.loop-link.seen _ c.if-not-goes_on.ensures

pub loop-link-preserved : goal.loop-link-preserved
loop-link-preserved c =
    let p = c.args.circuit.now.path.now in
    let u = c.args.circuit.now.units in (
      path_goes _ _ p c.loop-link.link-index _ _ _ _ c.loop-link.invariant.0 (omega arith) c.if-not-goes_on.ensures
          c.get-v-in-loop-link.ensures.to c.with-seen-in-loop-link.ensures,
      enough_turn u p c.loop-link.free c.loop-link.link-index _ (omega arith) refl (omega arith) ∙ c.loop-link.invariant.1,
      taken_turn u p c.loop-link.free c.loop-link.link-index _ (omega arith) refl ∙ c.loop-link.invariant.2,
    )

pub returns-clause-fits : goal.returns-clause-fits
returns-clause-fits c =
    let p = c.args.circuit.now.path.now in
    let whole = path_ends _ _ p c.loop-link.link-index _ _ c.loop-link.invariant.0 (omega arith) in
    let free = enough_end c.args.circuit.now.units p c.loop-link.free c.loop-link.link-index (omega arith) ∙ c.loop-link.invariant.1 in
    rw (← whole, ← free) refl

pub returns-clause-words : goal.returns-clause-words
returns-clause-words c _ =
    taken_end c.args.circuit.now.units c.args.circuit.now.path.now c.loop-link.free c.loop-link.link-index (omega arith)
    ∙ c.loop-link.invariant.2
