-- The first place whose number is not below this one is the one found; where the search comes to the end, there is none.
use Rattle.std.proofs.Common.{◌≡◌, ◌∙◌, rules, tests, true, false, leb, arith}
use Rattle.std.proofs.lemmas.Grind.{common_steps}
use Rattle.std.proofs.lemmas.Iterator.{first_from_Range}
use Rattle.area.specs.Held.{number_at}
use Rattle.area.proofs.CircuitCases.{place_told}
use Rattle.station.proofs.places.Places.of.Goals as goal

pub returns : goal.returns
returns c =
    let w = c.args.self.now.area.now in
    c.unwrap_or.ensures
    ∙ place_told w c.args.self.now.count c.args.number c.find.result
    (first_from_Range _ _ _ _ (λ i. leb c.args.number (number_at w i) ≡ true) (λ i. leb c.args.number (number_at w i) ≡ false)
    c.find.ensures.ran
    (λ x q k. grind (arith, common_steps))
    (λ x q k. (search (rules, tests), grind (arith, common_steps))))
