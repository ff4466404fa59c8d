-- Where a circuit stands at the number's place, its number decides; where none does, the number is not held.
use Rattle.std.proofs.Common.{arith, nat_eq, ap, ◌∙◌}
use borrow.Author.Tests.{le-ltb}
use Rattle.area.specs.Held.{number_at}
use Rattle.area.proofs.ReadCases.{held_here, held_nowhere}
use Rattle.station.proofs.formed.Station.holds.Goals as goal

pub returns-then-j-held : goal.returns-then-j-held
returns-then-j-held c =
    let there = c.number.ensures ∙ ap (λ w. number_at w c.args.j) c.places.ensures.area in
    ap (λ k. nat_eq k c.args.number) there
    ∙ held_here c.args.self.now.area.now c.args.self.now.formed c.args.number c.args.j c.requires (omega arith)

pub returns-else-j-held : goal.returns-else-j-held
returns-else-j-held c =
    le-ltb c.args.j c.held.result c.if-j-held.false
    ∙ held_nowhere c.args.self.now.area.now c.args.self.now.formed c.args.number c.args.j c.requires (omega arith)
