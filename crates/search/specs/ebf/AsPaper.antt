-- When the words of a table say what the paper's variables d and π hold, wherever d is within the kept bound.
-- Assumes nothing.
use Rattle.std.specs.Prelude.{ℕ, ◌≤◌, ◌<◌, ◌≡◌, List}
use Rattle.network.specs.Net.{Net}
use Rattle.network.specs.Problem.{Problem}
use Rattle.search.specs.Paper.{Estimation, weight, ∞, Predecessor, link, NIL, Variables}
use Rattle.search.specs.Paper as paper
use Rattle.search.specs.ebf.Table.{cell, number, link_at}

-- d[v, k] is within the kept bound
abbrev pub Within : ℕ → Estimation → Type 0
Within bound (weight n) = n ≤ bound
Within bound ∞ = ⊥

-- the word i says π[v, k]: that link's number, or for NIL a number that no link has
abbrev pub Names : Net → Predecessor → ℕ → Type 0
Names g (link j) i = (i ≡ j) × (i < g.links)
Names g NIL i = g.links ≤ i

-- a cell with the number n and the link word i, where the paper has d[v, k] and π[v, k]
pub record Entry (g : Net) (bound : ℕ) (d : Estimation) (π : Predecessor) (n i : ℕ) : Type 0 where
  pub number : Within bound d → d ≡ weight n
  pub predecessor : Within bound d → Names g π i
  -- no other entry is within the bound
  pub over : (Within bound d → ⊥) → bound < n

-- every entry of the table in the words l
abbrev pub AsPaper : Net → Problem → List ℕ → Variables → Type 0
AsPaper g q l t =
    (v k : ℕ) → v < g.nodes → k ≤ q.x
    → Entry g q.bound (t.d v k) (t.π v k) (number l (cell q.x v k)) (link_at l (cell q.x v k))

-- the table in the words l is the one that lines 20 to 24 leave, whatever the variables held before
abbrev pub LeftByPaper : Net → Problem → ℕ → List ℕ → Type 0
LeftByPaper g q s l = (before : Variables) → AsPaper g q l (paper.ebf g q s before)
