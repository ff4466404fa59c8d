-- Scaled weights: formula 1 of the paper, and Theorem 2's condition without division, for any weight, x and bound.
-- Assumes nothing.
use Rattle.std.specs.Prelude.{ℕ, zero, suc, ◌+◌, ◌-◌, ◌*◌, ◌/◌, ◌≤◌}

-- ⌈a / b⌉, where b is not 0
abbrev pub ceil : ℕ → ℕ → ℕ
ceil a b = (a + (b - 1)) / b

-- the scaled weight of one link. With a bound of 0 it is 0 where the weight is 0 and x + 1 otherwise; every other one is
-- document 01's ⌈weight × x / bound⌉
unfoldable pub scaled : ℕ → ℕ → ℕ → ℕ
scaled x zero zero = 0
scaled x zero (suc w) = x + 1
scaled x (suc b) weight = ceil (weight * x) (suc b)

-- the paper's overqualified: the weight of a path of l links leaves room for rounding each of them up but one,
-- weight·x + l·bound ≤ (x + 1)·bound
unfoldable pub Overqualified : ℕ → ℕ → ℕ → ℕ → Type 0
Overqualified x bound l weight = weight * x + l * bound ≤ (x + 1) * bound
