-- The checks refuse as the definition says; past them the numbers of the held circuits stand in the buffer.
use Rattle.std.proofs.Common.{arith, ◌++◌, drop, ap, ◌∙◌}
use Rattle.network.specs.Lists.{from}
use Rattle.area.specs.Held.{number_at}
use Rattle.area.proofs.Refusals.{passed_on}
use Rattle.area.proofs.ReadCases.{list_unfit, list_short, list_all}
use Rattle.station.proofs.reads.list.Goals as goal

pub returns-in_err-free : goal.returns-in_err-free
returns-in_err-free c =
    let k = list_unfit c.args.area.now c.args.numbers.now c.in_err-free.ensures.formed in
    rw (passed_on c.from_residual.result _ _ c.from_residual.ensures.1 c.in_err-free.ensures.refused)
    (record { answer = k.0; numbers = k.1.0; means = k.1.1 })

pub returns-then-numbers-places : goal.returns-then-numbers-places
returns-then-numbers-places c =
    let k = list_short c.args.area.now c.args.numbers.now c.in_ok-free.ensures.formed _ c.places-places.ensures.count (omega arith) in
    record { answer = k.0; numbers = k.1.0; means = k.1.1 }

pub returns : goal.returns
returns c =
    let stored =
    c.write_numbers.ensures
    ∙ ap (λ w. from (number_at w) 0 c.places-places.result.count ++ drop c.places-places.result.count c.args.numbers.now) c.places-places.ensures.area in
    let k = list_all c.args.area.now c.args.numbers.now c.in_ok-free.ensures.formed _ c.places-places.ensures.count (omega arith) c.write_numbers.new.numbers stored in
    record { answer = k.0; numbers = k.1.0; means = k.1.1 }
