-- The checks refuse in their order; then each job goes on from what the one before it left, and past the last one the call is done.
use Rattle.std.proofs.Common.{◌≡◌, length, sym, arith, rules}
use Rattle.area.specs.Refusals.{refuses, number, numbered}
use Rattle.rules.proofs.JobCases.{reached_none, reached_more, jobs_unfit, jobs_refused, jobs_done}
use Rattle.booking.proofs.jobs.admit_jobs.Goals as goal

pub returns-in_err-free : goal.returns-in_err-free
returns-in_err-free c =
    let says : numbered c.from_residual.result ≡ refuses 5 = search rules in
    let a = jobs_unfit c.args.area.now (length c.args.work.now) c.args.jobs.now c.args.answers.now (sym c.in_err-free.ensures.formed) in
    record { answer = rw says a.0; answers = a.1.0; area = a.1.1.0; means = rw says a.1.1.1 }

pub returns-in_err-count : goal.returns-in_err-count
returns-in_err-count c =
    let k = number c.in_err-count.field-0.0 in
    let says : numbered c.from_residual-in_err-count.result ≡ refuses k = search rules in
    let a = jobs_refused c.args.area.now (length c.args.work.now) c.args.jobs.now c.args.answers.now (sym c.in_ok-free.ensures.formed) k
    c.in_err-count.ensures in
    record { answer = rw says a.0; answers = a.1.0; area = a.1.1.0; means = rw says a.1.1.1 }

pub loop-k-init : goal.loop-k-init
loop-k-init c =
    reached_none c.args.area.now (length c.args.work.now) c.args.jobs.now c.args.answers.now (sym c.in_ok-free.ensures.formed) c.in_ok-free.free
    c.in_ok-free.ensures.units

pub admit_job-requires-clause-formed : goal.admit_job-requires-clause-formed
admit_job-requires-clause-formed c = c.loop-k.invariant.formed

pub admit_job-requires-clause-units : goal.admit_job-requires-clause-units
admit_job-requires-clause-units c = c.loop-k.invariant.units

pub loop-k-preserved : goal.loop-k-preserved
loop-k-preserved c =
    reached_more c.args.area.now (length c.args.work.now) c.args.jobs.now c.args.answers.now c.loop-k.k c.loop-k.area c.loop-k.answers
    c.loop-k.free c.loop-k.invariant (length c.loop-k.work) c.loop-k.auto.work c.job.result c.job.ensures _ c.admit_job.ensures.answer _
    c.admit_job.ensures.area _ c.admit_job.ensures.formed c.admit_job.ensures.units _ (omega arith)

pub returns : goal.returns
returns c =
    let a = jobs_done c.args.area.now (length c.args.work.now) c.args.jobs.now c.args.answers.now (sym c.in_ok-free.ensures.formed) c.in_ok-count.count
    c.in_ok-count.ensures c.loop-k.k (omega arith) _ _ _ c.loop-k.invariant in
    record { answer = a.0; answers = a.1.0; area = a.1.1.0; means = a.1.1.1 }
