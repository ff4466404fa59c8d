-- The stores, one after the other, are a circuit's words.
use Rattle.std.proofs.Common.{arith}
use Rattle.station.proofs.Put.{circuit_stored}
use Rattle.station.proofs.store.write_circuit.Goals as goal

pub returns : goal.returns
returns c =
    circuit_stored c.args.area.now (record { number = c.args.number; units = c.args.units; path = c.args.path.now })
    c.put.new.area c.fill.new.self c.args.at _ c.put.ensures (omega arith) (c.fill.ensures.after (λ y e. e)) (omega arith) (omega arith)
