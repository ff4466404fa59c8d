-- An area that is not well formed is refused, and so is a number that does not stand at its place; past both checks the circuit
-- there goes.
use Rattle.std.proofs.Common.{◌≡◌, refl, ap, sym, ◌∙◌, rules}
use Rattle.area.specs.Refusals.{refuses, numbered}
use Rattle.area.specs.Moves.{removed}
use Rattle.area.proofs.ReadCases.{formed_long, formed_held, held_low}
use Rattle.rules.specs.Replies.{releases}
use Rattle.rules.specs.Calls.{cleared}
use Rattle.rules.proofs.CallCases.{release_unfit, release_unheld, release_held}
use Rattle.rules.proofs.Granting.{cleared_as}
use Rattle.booking.proofs.calls.release.Goals as goal

pub returns-in_err-free : goal.returns-in_err-free
unfolding cleared
returns-in_err-free c =
    let w = c.args.area.now in
    let says : numbered c.from_residual.result ≡ refuses 5 = search rules in
    let a = cleared_as w c.args.number (refuses 5) (release_unfit w c.args.number (sym c.in_err-free.ensures.formed)) w (search rules) in
    record { answer = rw says a.0; area = a.1.0; means = rw says a.1.1 }

pub returns-then-not-holds : goal.returns-then-not-holds
unfolding cleared
returns-then-not-holds c =
    let w = c.args.area.now in
    let a = cleared_as w c.args.number (refuses 13)
    (release_unheld w c.args.number (sym c.in_ok-free.ensures.formed) (sym c.if-not-holds.ensures)) w refl in
    record { answer = a.0; area = a.1.0; means = a.1.1 }

pub remove-requires-clause-area_words_in_bounds : goal.remove-requires-clause-area_words_in_bounds
remove-requires-clause-area_words_in_bounds c = formed_long c.args.area.now (sym c.in_ok-free.ensures.formed)

pub remove-requires-clause-area_bound : goal.remove-requires-clause-area_bound
remove-requires-clause-area_bound c = formed_held c.args.area.now (sym c.in_ok-free.ensures.formed)

pub remove-requires-clause-j_bound : goal.remove-requires-clause-j_bound
remove-requires-clause-j_bound c =
    held_low c.args.area.now (sym c.in_ok-free.ensures.formed) c.args.number _ c.place_of-j.ensures (sym c.if-not-holds.ensures)

pub returns : goal.returns
unfolding cleared
returns c =
    let w = c.args.area.now in
    let a = cleared_as w c.args.number releases (release_held w c.args.number (sym c.in_ok-free.ensures.formed) (sym c.if-not-holds.ensures)) c.remove.new.area
    (c.remove.ensures ∙ ap (removed w) c.place_of-j.ensures) in
    record { answer = a.0; area = a.1.0; means = a.1.1 }
