-- The words that move up and the count are the stores of a release.
use Rattle.std.proofs.Common.{arith, refl}
use Rattle.area.proofs.Stores.{removed_words}
use Rattle.station.proofs.store.remove.Goals as goal

pub returns : goal.returns
returns c = rw c.close.ensures (removed_words _ _ _ _ _ c.place-at.ensures c.place-end.ensures refl (omega arith))
