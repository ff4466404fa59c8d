-- A refused admission leaves the area and the free units; a granted one is read back from the path buffer, and its units are taken of links
-- that have them.
use Rattle.std.proofs.Common.{length, arith}
use Rattle.area.specs.Refusals.{number}
use Rattle.rules.proofs.JobCases.{stays_formed, refused_units, next_fits, next_links, next_enough, next_units}
use Rattle.booking.proofs.jobs.admit_next.Goals as goal

pub returns-in_err-grant-clause-formed : goal.returns-in_err-grant-clause-formed
returns-in_err-grant-clause-formed c =
    stays_formed c.args.area.now (length c.args.work.now) (length c.args.path.now) c.args.job.number c.args.job.request c.requires.formed _
    c.admit_formed.ensures.area

pub returns-in_err-grant-clause-units : goal.returns-in_err-grant-clause-units
returns-in_err-grant-clause-units c =
    refused_units c.args.area.now (length c.args.work.now) (length c.args.path.now) c.args.job.number c.args.job.request c.requires.formed
    c.args.free.now c.requires.units (number c.in_err-grant.field-0.0) c.in_err-grant.ensures.answer _ c.admit_formed.ensures.area

pub part-links-requires : goal.part-links-requires
part-links-requires c =
    let fits = next_fits c.args.area.now (length c.args.work.now) (length c.args.path.now) c.args.job.number c.args.job.request
    c.requires.formed c.args.free.now c.requires.units c.in_ok-grant.grant c.in_ok-grant.ensures.answer c.args.path.now _
    c.admit_formed.ensures.path in
    omega (arith, fits)

pub take_units-requires-clause-links : goal.take_units-requires-clause-links
take_units-requires-clause-links c =
    next_links c.args.area.now (length c.args.work.now) (length c.args.path.now) c.args.job.number c.args.job.request c.requires.formed
    c.args.free.now c.requires.units c.in_ok-grant.grant c.in_ok-grant.ensures.answer c.args.path.now _ c.admit_formed.ensures.path _
    c.part-links.ensures

pub take_units-requires-clause-enough : goal.take_units-requires-clause-enough
take_units-requires-clause-enough c =
    next_enough c.args.area.now (length c.args.work.now) (length c.args.path.now) c.args.job.number c.args.job.request c.requires.formed
    c.args.free.now c.requires.units c.in_ok-grant.grant c.in_ok-grant.ensures.answer c.args.path.now _ c.admit_formed.ensures.path _
    c.part-links.ensures

pub returns-clause-formed : goal.returns-clause-formed
returns-clause-formed c =
    stays_formed c.args.area.now (length c.args.work.now) (length c.args.path.now) c.args.job.number c.args.job.request c.requires.formed _
    c.admit_formed.ensures.area

pub returns-clause-units : goal.returns-clause-units
returns-clause-units c =
    next_units c.args.area.now (length c.args.work.now) (length c.args.path.now) c.args.job.number c.args.job.request c.requires.formed
    c.args.free.now c.requires.units c.in_ok-grant.grant c.in_ok-grant.ensures.answer c.args.path.now _ c.admit_formed.ensures.path _
    c.part-links.ensures _ c.take_units.ensures _ c.admit_formed.ensures.area
