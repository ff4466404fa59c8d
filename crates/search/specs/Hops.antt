-- The links of a reduced problem, by their numbers, and their ranges.
-- Assumes nothing.
use Rattle.std.specs.Prelude.{ℕ, ◌≤◌, ◌<◌, false, List, length, get_or}
use Rattle.network.specs.Limits.{most_bound, most_links, most_nodes, most_weight, most_x}
use Rattle.search.specs.declared.reduced.Hop.{Hop}

-- what stands past the last link
abbrev pub no_hop : Hop
no_hop = record { tail = 0; head = 0; usable = false; kept = 0; step = 0 }

-- the link of number i in a list
abbrev pub nth_hop : List Hop → ℕ → Hop
nth_hop hops i = get_or hops i no_hop

-- the numbers of nodes and of links, the bounds and the links of a reduced problem are in their ranges
pub record HopsFit (nodes x bound : ℕ) (hops : List Hop) : Type 0 where
  pub nodes_some : 0 < nodes
  pub nodes_most : nodes ≤ most_nodes
  pub links_most : length hops ≤ most_links
  pub x_most : x ≤ most_x
  pub bound_most : bound ≤ most_bound
  pub tail : (i : ℕ) → i < length hops → (nth_hop hops i).tail < nodes
  pub head : (i : ℕ) → i < length hops → (nth_hop hops i).head < nodes
  pub kept : (i : ℕ) → i < length hops → (nth_hop hops i).kept ≤ most_weight
