-- The tests of line 7 and of a finished table decide what they are to decide.
-- Assumes nothing.
use mathlib.Core.Path.{◌≡◌}
use mathlib.Core.Bool.{true, false}
use mathlib.Core.List.{List}
use Prim.Native.Nat.{ℕ, ◌≤◌, ◌<◌}
use borrow.Author.Tests.{leb-true, leb-false, le-leb}
use Rattle.network.specs.Problem.{Problem}
use Rattle.search.specs.ebf.Table.{cell, number, allowed}
use Rattle.search.specs.ebf.Solve.{reached}

-- scaled weight x itself is allowed, and no more
pub small_allowed : (q : Problem) (k : ℕ) → k ≤ q.x → allowed q k ≡ true
small_allowed q k h = le-leb _ _ h

pub allowed_small : (q : Problem) (k : ℕ) → allowed q k ≡ true → k ≤ q.x
allowed_small q k e = leb-true _ _ e

-- kept weight equal to its bound is reached, and no more
pub unreached_over : (q : Problem) (l : List ℕ) (t : ℕ) → reached q l t ≡ false → q.bound < number l (cell q.x t q.x)
unreached_over q l t e = leb-false _ _ e

pub reached_within : (q : Problem) (l : List ℕ) (t : ℕ) → reached q l t ≡ true → number l (cell q.x t q.x) ≤ q.bound
reached_within q l t e = leb-true _ _ e
