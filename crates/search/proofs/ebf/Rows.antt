-- The bounds of the table's rows and cells within document 01's ranges.
-- Assumes nothing.
use mathlib.Core.Path.{◌≡◌}
use Prim.Native.Nat.{ℕ, ◌+◌, ◌*◌, ◌-◌, ◌≤◌, ◌<◌}
use native.Mathlib.Nat.{mul-le-mul}
use native.Mathlib.Omega.{arith}
use Rattle.network.specs.Limits.{most_nodes, most_x, work_words}
use Rattle.search.specs.ebf.Table.{cell, most_cells}

-- rows and cells where nodes and x are in their ranges
pub row_below : (x v : ℕ) → v < most_nodes → x ≤ most_x → v * (x + 1) ≤ (most_nodes - 1) * (most_x + 1)
row_below x v hv hx = mul-le-mul {n₂ = most_nodes - 1} {m₂ = most_x + 1} (omega arith) (omega arith)

pub cells_below : (n x : ℕ) → n ≤ most_nodes → x ≤ most_x → n * (x + 1) ≤ most_cells
cells_below n x hn hx = mul-le-mul {n₂ = most_nodes} {m₂ = most_x + 1} hn (omega arith)

-- work memory has the number and the link of every cell
pub work_enough : 2 * most_cells ≤ work_words
work_enough = omega arith

pub row_fits_lem : (x s : ℕ) → s < most_nodes → x ≤ most_x → cell x s 0 + (x + 1) ≤ most_cells
unfolding cell
row_fits_lem x s hs hx = omega (arith, row_below x s hs hx)

-- the cells of a row stand one after another
pub row_cell : (x s k : ℕ) → cell x s 0 + k ≡ cell x s k
unfolding cell
row_cell x s k = omega arith
