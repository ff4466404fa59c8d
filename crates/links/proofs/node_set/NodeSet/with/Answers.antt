-- A power of two below 2 ^ 32 is not cut off.
use lib.Pow.{pow-lt}
use native.Mathlib.Nat.{mod-eq_of_lt, one-mul}
use Rattle.network.specs.NodeSet.{inserted}
use Rattle.links.proofs.node_set.NodeSet.with.Goals as goal

pub returns : goal.returns
unfolding inserted
returns c = rw (c.self.view_is) (simp (one-mul, mod-eq_of_lt (pow-lt {j = 32} c.requires)))
