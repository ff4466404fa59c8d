-- Before the first turn all is left to store; a turn stores the next number; at the end the numbers stand in front.
use Rattle.std.proofs.Common.{arith, ◌∙◌}
use Rattle.area.specs.Held.{number_at}
use Rattle.network.proofs.Stored.{from_turn, from_end_lem, from_stored}
use Rattle.station.proofs.reads.write_numbers.Goals as goal

pub loop-j-preserved : goal.loop-j-preserved
loop-j-preserved c =
    from_turn (number_at c.args.places.now.area.now) c.loop-j.numbers c.loop-j.j c.args.places.now.count _ (omega arith) c.number.ensures
    ∙ c.loop-j.invariant

pub returns : goal.returns
returns c =
    from_end_lem (number_at c.args.places.now.area.now) c.loop-j.numbers c.loop-j.j c.args.places.now.count (omega arith)
    ∙ c.loop-j.invariant
    ∙ from_stored (number_at c.args.places.now.area.now) c.args.numbers.now c.args.places.now.count (omega arith)
