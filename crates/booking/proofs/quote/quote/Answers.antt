-- The first check that fails gives the number, and past the checks the search replies.
use Rattle.std.proofs.Common.{◌≡◌, length, sym, rules}
use Rattle.area.specs.Refusals.{refuses, number, numbered}
use Rattle.rules.specs.Calls.{searched}
use Rattle.rules.specs.Meaning.{books_in}
use Rattle.rules.proofs.CallCases.{all_passed, quote_unfit, quote_refused, quote_passed}
use Rattle.rules.proofs.Granting.{quoted_as, refusal_quoted}
use Rattle.booking.proofs.quote.quote.Goals as goal

pub returns-in_err-free : goal.returns-in_err-free
returns-in_err-free c =
    let w = c.args.area.now in
    let work = length c.args.work.now in
    let l = c.args.path.now in
    let says : numbered c.from_residual.result ≡ refuses 5 = search rules in
    let a = refusal_quoted w work l c.args.r 5 (quote_unfit w work (length l) c.args.r (sym c.in_err-free.ensures.formed)) in
    record { answer = rw says a.0; path = a.1.0; means = rw says a.1.1 }

pub returns-in_err-check_request : goal.returns-in_err-check_request
returns-in_err-check_request c =
    let w = c.args.area.now in
    let work = length c.args.work.now in
    let l = c.args.path.now in
    let k = number c.in_err-check_request.field-0.0 in
    let says : numbered c.from_residual-in_err-check_request.result ≡ refuses k = search rules in
    let a = refusal_quoted w work l c.args.r k (quote_refused w work (length l) c.args.r (sym c.in_ok-free.ensures.formed) k c.in_err-check_request.ensures) in
    record { answer = rw says a.0; path = a.1.0; means = rw says a.1.1 }

pub find_path-requires : goal.find_path-requires
find_path-requires c =
    let p = all_passed _ _ _ _ c.in_ok-check_request.ensures in
    record { memory = p.memory; buffer = p.buffer; request = p.request }

pub returns : goal.returns
returns c =
    let w = c.args.area.now in
    let work = length c.args.work.now in
    let l = c.args.path.now in
    let a = quoted_as w work l c.args.r (searched (books_in w) c.args.r)
    (quote_passed w work (length l) c.args.r (sym c.in_ok-free.ensures.formed) c.in_ok-check_request.ensures) _ c.find_path.ensures.answer _
    c.find_path.ensures.path in
    record { answer = a.0; path = a.1.0; means = a.1.1 }
