-- Before the first circuit every link has its capacity free; a circuit that fits takes its units; words that do not fit, a path
-- that is none and units that are not free decide; and after the last what is free is what is left.
use Rattle.std.proofs.Common.{arith, refl}
use Rattle.area.proofs.CircuitUnits.{passed_none, words_out, take_out, take_more, passed_all, passed_left}
use Rattle.station.proofs.units.free_units.Goals as goal

pub loop-j-init : goal.loop-j-init
loop-j-init c =
    let t = c.args.table.now in
    passed_none t.links.count t.links.words.now c.args.places.now.area.now c.capacities-free.result c.capacities-free.ensures

pub returns-in_err-circuit-clause-fit : goal.returns-in_err-circuit-clause-fit
returns-in_err-circuit-clause-fit c =
    rw c.from_residual.ensures
    (words_out _ _ c.args.places.now.area.now c.loop-j.j c.args.places.now.count (omega arith) c.in_err-circuit.ensures.fits)

pub returns-then-not-take-clause-fit : goal.returns-then-not-take-clause-fit
returns-then-not-take-clause-fit c =
    take_out _ _ c.args.places.now.area.now c.loop-j.j c.loop-j.free c.loop-j.invariant c.in_ok-circuit.ensures.fits _ c.in_ok-circuit.ensures.is
    c.args.places.now.count (omega arith) c.if-not-take.ensures.fits

pub loop-j-preserved : goal.loop-j-preserved
loop-j-preserved c =
    take_more _ _ c.args.places.now.area.now c.loop-j.j c.loop-j.free c.loop-j.invariant c.in_ok-circuit.ensures.fits _ c.in_ok-circuit.ensures.is
    c.take.new.free c.if-not-take.ensures.fits (c.if-not-take.ensures.words refl)

pub returns-clause-fit : goal.returns-clause-fit
returns-clause-fit c =
    passed_all _ _ c.args.places.now.area.now c.loop-j.j c.args.places.now.count c.loop-j.free (omega arith) c.loop-j.invariant

pub returns-clause-free : goal.returns-clause-free
returns-clause-free c =
    passed_left c.args.table.now.links.count c.args.table.now.links.words.now c.args.places.now.area.now c.loop-j.j c.args.places.now.count c.loop-j.free (omega arith) c.loop-j.invariant
