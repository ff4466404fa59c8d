-- A set of nodes in one word: v is in it where bit v is 1. Document 01's form for the nodes already on a path.
-- Assumes nothing.
use Rattle.std.specs.Prelude.{ℕ, ◌/◌, ◌%◌, ◌^◌, Bool, eqb}
use Rattle.std.specs.Int.Bits.{bit_or}

unfoldable pub member : ℕ → ℕ → Bool
member set v = eqb (set / 2 ^ v % 2) 1

unfoldable pub inserted : ℕ → ℕ → ℕ
inserted set v = bit_or set (2 ^ v)
