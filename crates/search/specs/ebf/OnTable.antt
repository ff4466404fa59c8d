-- What the functions on a table rely on: its numbers are bounded, and a trace stands at one of its cells.
-- Assumes nothing.
use Rattle.std.specs.Prelude.{ℕ, ◌+◌, ◌≤◌, ◌<◌, List}
use Rattle.network.specs.Limits.{most_nodes}
use Rattle.search.specs.declared.TracePlace.{TracePlace}
use Rattle.search.specs.declared.reduced.Reduced.{Reduced}
use Rattle.search.specs.ebf.Table.{cell, number}

-- every number of the table is within the bound, or bound + 1 for ∞
abbrev pub Bounded : Reduced → List ℕ → Type 0
Bounded p l = (v k : ℕ) → v < p.nodes → k ≤ p.x → number l (cell p.x v k) ≤ p.bound + 1

-- the trace is at a cell of the table
pub record OnTable (p : Reduced) (w : TracePlace) : Type 0 where
  pub node : w.node < most_nodes
  pub column : w.column ≤ p.x
