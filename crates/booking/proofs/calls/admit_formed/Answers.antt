-- The checks past that of the area refuse in their order, then the search replies; a grant's path is read back from the path buffer and
-- stored, and a refusal stores nothing.
use Rattle.std.proofs.Common.{◌≡◌, length, refl, sym, ap, ◌∙◌, arith, rules}
use Rattle.area.specs.Refusals.{refuses, number, numbered}
use Rattle.area.proofs.ReadCases.{formed_long}
use Rattle.area.proofs.Places.{place_of_most}
use Rattle.area.proofs.WordsAt.{words_length}
use Rattle.rules.specs.Calls.{searched}
use Rattle.rules.specs.Meaning.{books_in}
use Rattle.rules.proofs.CallCases.{all_passed, number_passed, admission_refused, number_refused, admission_passed}
use Rattle.rules.proofs.Granting.{stored_as, unstored, granted_short, admitted_as, refusal_admitted}
use Rattle.booking.proofs.calls.admit_formed.Goals as goal

pub returns-in_err-check_request : goal.returns-in_err-check_request
returns-in_err-check_request c =
    let w = c.args.area.now in
    let work = length c.args.work.now in
    let l = c.args.path.now in
    let k = number c.in_err-check_request.field-0.0 in
    let says : numbered c.from_residual.result ≡ refuses k = search rules in
    let a = refusal_admitted w work l c.args.circuit c.args.r k
    (admission_refused w work (length l) c.args.circuit c.args.r c.requires.formed k c.in_err-check_request.ensures) in
    record { answer = rw says a.0; path = a.1.0; area = a.1.1.0 }

pub returns-in_err-j : goal.returns-in_err-j
returns-in_err-j c =
    let w = c.args.area.now in
    let work = length c.args.work.now in
    let l = c.args.path.now in
    let k = number c.in_err-j.field-0.0 in
    let says : numbered c.from_residual-in_err-j.result ≡ refuses k = search rules in
    let a = refusal_admitted w work l c.args.circuit c.args.r k
    (number_refused w work (length l) c.args.circuit c.args.r c.requires.formed c.in_ok-check_request.ensures k c.in_err-j.ensures) in
    record { answer = rw says a.0; path = a.1.0; area = a.1.1.0 }

pub find_path-requires : goal.find_path-requires
find_path-requires c =
    let p = all_passed _ _ _ _ c.in_ok-check_request.ensures in
    record { memory = p.memory; buffer = p.buffer; request = p.request }

pub returns-in_err-grant : goal.returns-in_err-grant
returns-in_err-grant c =
    let w = c.args.area.now in
    let work = length c.args.work.now in
    let l = c.args.path.now in
    let r = c.args.r in
    let k = number c.in_err-grant.field-0.0 in
    let says : numbered c.from_residual-in_err-grant.result ≡ refuses k = search rules in
    let fails = c.in_err-grant.ensures.answer in
    let a = admitted_as w work l c.args.circuit r (searched (books_in w) r)
    (admission_passed w work (length l) c.args.circuit r c.requires.formed c.in_ok-check_request.ensures _ c.in_ok-j.ensures)
    (refuses k) fails _ c.find_path.ensures.path w (unstored w c.args.circuit r.terms.units k (searched (books_in w) r) fails) in
    record { answer = rw says a.0; path = a.1.0; area = a.1.1.0 }

pub part-links-requires : goal.part-links-requires
part-links-requires c =
    let w = c.args.area.now in
    let p = all_passed w (length c.args.work.now) (length c.args.path.now) c.args.r c.in_ok-check_request.ensures in
    let short = granted_short w c.args.r c.requires.formed p.request _ (sym c.in_ok-grant.ensures.answer) in
    omega (arith, short, p.buffer, c.find_path.auto.path)

pub add-requires-clause-area_words_in_bounds : goal.add-requires-clause-area_words_in_bounds
add-requires-clause-area_words_in_bounds c = formed_long c.args.area.now c.requires.formed

pub add-requires-clause-area_bound : goal.add-requires-clause-area_bound
add-requires-clause-area_bound c = (number_passed _ _ _ c.in_ok-j.ensures).0

pub add-requires-clause-j_bound : goal.add-requires-clause-j_bound
add-requires-clause-j_bound c = rw (number_passed _ _ _ c.in_ok-j.ensures).1 (place_of_most c.args.area.now c.args.circuit)

pub add-requires-clause-path_len_bound : goal.add-requires-clause-path_len_bound
add-requires-clause-path_len_bound c =
    let w = c.args.area.now in
    let p = all_passed w (length c.args.work.now) (length c.args.path.now) c.args.r c.in_ok-check_request.ensures in
    let short = granted_short w c.args.r c.requires.formed p.request _ (sym c.in_ok-grant.ensures.answer) in
    omega (arith, short, ap length c.part-links.ensures, words_length c.find_path.new.path 0 c.in_ok-grant.grant.links)

pub returns : goal.returns
returns c =
    let w = c.args.area.now in
    let work = length c.args.work.now in
    let l = c.args.path.now in
    let r = c.args.r in
    let grant = c.in_ok-grant.ensures.answer in
    let holds = c.find_path.ensures.path in
    let new = c.in_ok-j.ensures in
    let stored = stored_as w c.args.circuit r.terms.units _ l (searched (books_in w) r) (sym grant) _ (number_passed w c.args.circuit _ new).1 _ holds _ refl _ c.part-links.ensures in
    let a = admitted_as w work l c.args.circuit r (searched (books_in w) r)
    (admission_passed w work (length l) c.args.circuit r c.requires.formed c.in_ok-check_request.ensures _ new)
    _ grant _ holds _ (c.add.ensures ∙ stored) in
    record { answer = a.0; path = a.1.0; area = a.1.1.0 }
