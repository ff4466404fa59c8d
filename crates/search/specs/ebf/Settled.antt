-- When a link has nothing left to offer from a column, so that trying it there again changes no word.
-- Assumes nothing.
use Rattle.std.specs.Prelude.{ℕ, ◌+◌, ◌≤◌, ◌<◌, ◌≡◌, true, List}
use Rattle.network.specs.Net.{Net}
use Rattle.network.specs.Problem.{Problem}
use Rattle.search.specs.ebf.Table.{cell, number}

-- link i from its tail at k: it is no edge, or leads over x, or its tail was not reached, or its head has as little
abbrev pub Settled : Net → Problem → ℕ → ℕ → List ℕ → Type 0
Settled g q k i l =
    g.usable i ≡ true → k + q.scaled_by i ≤ q.x → number l (cell q.x (g.tail i) k) ≤ q.bound
    → number l (cell q.x (g.head i) (k + q.scaled_by i)) ≤ number l (cell q.x (g.tail i) k) + q.kept i

-- every link at column k
abbrev pub SettledColumn : Net → Problem → ℕ → List ℕ → Type 0
SettledColumn g q k l = (i : ℕ) → i < g.links → Settled g q k i l
