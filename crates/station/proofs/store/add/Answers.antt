-- The gap, the circuit's words in it and the count are the stores of an admission.
use Rattle.std.proofs.Common.{arith}
use Rattle.area.proofs.Stores.{added_words}
use Rattle.station.proofs.store.add.Goals as goal

pub returns : goal.returns
returns c =
    rw (c.write_circuit.ensures, c.open.ensures) (added_words _ c.args.j _ _ _ c.place-at.ensures c.place.ensures (omega arith))
