-- Before turn k the set is layer k, and no earlier layer has the target.
use Rattle.std.proofs.Common.{◌≡◌, ◌<◌, ℕ, false}
use Rattle.network.specs.NodeSet.{member}
use Rattle.search.specs.Distance.{layer}
use Rattle.route.specs.Described.{described}
use Rattle.route.proofs.net.Network.distance.Given as goal

abbrev pub invariant-loop-k : goal.invariant-loop-k
invariant-loop-k l = record {
  is : l.set ≡ layer (described l.self) l.s l.k;
  none : (j : ℕ) → j < l.k → member (layer (described l.self) l.s j) l.t ≡ false;
}
