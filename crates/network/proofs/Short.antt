-- A path has fewer links than there are nodes: it passes one node more than it has links, and none of them twice.
-- Assumes nothing.
use mathlib.Core.List.{List, [], ◌∷◌, map}
use Prim.Native.Nat.{ℕ, ◌-◌, ◌≤◌, ◌<◌}
use native.Mathlib.Omega.{arith}
use lib.ListN.{length, length-map}
use Rattle.network.specs.Lists.{All, Distinct}
use Rattle.network.specs.Net.{Net, Ends, Walk, IsPath, nodes_of}
use Rattle.network.proofs.Few.{few}

-- the nodes that a walk comes to are nodes of the network
pub heads_low : (g : Net) → Ends g → (s t : ℕ) (p : List ℕ) → Walk g s t p → All (λ v. v < g.nodes) (map g.head p)
heads_low g ends s t [] w = tt
heads_low g ends s t (i ∷ p) w = (ends.heads i w.0, heads_low g ends (g.head i) t p w.3)

module _ (g : Net) (ends : Ends g) (s t : ℕ) (s_low : s < g.nodes) (p : List ℕ) where
  pub walk_short : Walk g s t p → Distinct (nodes_of g s p) → length p ≤ g.nodes - 1
  walk_short w d = omega (arith, few g.nodes (nodes_of g s p) d (s_low, heads_low g ends s t p w), length-map p g.head)

  pub path_short : IsPath g s t p → length p ≤ g.nodes - 1
  path_short h = walk_short h.walk h.distinct
