-- No link stands past the end of a table: what its words would say of one is 0.
-- Assumes nothing.
use mathlib.Core.Path.{◌≡◌}
use mathlib.Core.List.{List}
use Prim.Native.Nat.{ℕ, ◌*◌, ◌≤◌}
use native.Mathlib.Omega.{arith}
use lib.ListN.{length, get_or-eq_default}
use Rattle.network.specs.Limits.{link_words}
use Rattle.network.specs.Words.{field}

pub past_links : (links : List ℕ) (m i j : ℕ) → length links ≡ link_words * m → m ≤ i → field links i j ≡ 0
past_links links m i j whole high = get_or-eq_default links 0 (omega arith)
