-- An area that is not well formed is refused; on a well-formed one it is the admission there, and what that wrote means what the rules
-- say.
use Rattle.std.proofs.Common.{◌≡◌, length, refl, sym, rules}
use Rattle.area.specs.Refusals.{refuses, numbered}
use Rattle.rules.specs.Calls.{admission}
use Rattle.rules.proofs.CallCases.{admission_unfit}
use Rattle.rules.proofs.Granting.{admitted_as, refusal_admitted}
use Rattle.booking.proofs.calls.admit.Goals as goal

pub returns-in_err-free : goal.returns-in_err-free
returns-in_err-free c =
    let w = c.args.area.now in
    let work = length c.args.work.now in
    let l = c.args.path.now in
    let says : numbered c.from_residual.result ≡ refuses 5 = search rules in
    let a = refusal_admitted w work l c.args.circuit c.args.r 5 (admission_unfit w work (length l) c.args.circuit c.args.r (sym c.in_err-free.ensures.formed)) in
    record { answer = rw says a.0; path = a.1.0; area = a.1.1.0; means = rw says a.1.1.1 }

pub returns-clause-means : goal.returns-clause-means
returns-clause-means c =
    let w = c.args.area.now in
    let work = length c.args.work.now in
    let l = c.args.path.now in
    let r = c.args.r in
    (admitted_as w work l c.args.circuit r (admission w work (length l) c.args.circuit r) refl _ c.admit_formed.ensures.answer _
    c.admit_formed.ensures.path _ c.admit_formed.ensures.area).1.1.1
