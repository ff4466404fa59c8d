-- What every table of the search keeps: a number within the bound has a trace back to the source, along which
-- the links kept in the table lead. Each trace carries its own length, so links of no weight are no special case.
-- Assumes nothing.
use mathlib.Core.Path.{◌≡◌}
use mathlib.Core.Bool.{true}
use mathlib.Core.List.{List}
use Prim.Native.Nat.{ℕ, zero, suc, ◌+◌, ◌*◌, ◌-◌, ◌≤◌, ◌<◌}
use lib.ListN.{length}
use Rattle.network.specs.Net.{Net}
use Rattle.network.specs.Problem.{Problem}
use Rattle.search.specs.ebf.Table.{cell, cells, number, link_at}

-- d[v, k], and the link kept there
abbrev pub at : Problem → List ℕ → ℕ → ℕ → ℕ
at q l v k = number l (cell q.x v k)

abbrev pub via : Problem → List ℕ → ℕ → ℕ → ℕ
via q l v k = link_at l (cell q.x v k)

module _ (g : Net) (q : Problem) where
  -- work memory has a place for every cell
  abbrev pub Room : List ℕ → Type 0
  Room l = 2 * cells g.nodes q.x ≤ length l

  -- link i leads to v at column k, and the number there is no less than by i
  pub record Step (l : List ℕ) (v k i : ℕ) : Type 0 where
    pub listed : i < g.links
    pub usable : g.usable i ≡ true
    pub leads : g.head i ≡ v
    pub room : q.scaled_by i ≤ k
    pub falls : at q l (g.tail i) (k - q.scaled_by i) + q.kept i ≤ at q l v k

module _ (g : Net) (q : Problem) (s : ℕ) where
  -- n kept links lead from s to v at column k
  abbrev pub Trace : List ℕ → ℕ → ℕ → ℕ → Type 0
  Trace l zero v k = v ≡ s
  Trace l (suc n) v k =
      (v ≡ s → ⊥) × Step g q l v k (via q l v k) × Trace l n (g.tail (via q l v k)) (k - q.scaled_by (via q l v k))

  -- what every table of the search keeps
  pub record Good (l : List ℕ) : Type 0 where
    pub room : Room g q l
    pub source : (k : ℕ) → k ≤ q.x → at q l s k ≡ 0
    pub below : (v k : ℕ) → v < g.nodes → k ≤ q.x → at q l v k ≤ q.bound + 1
    pub traced : (v k : ℕ) → v < g.nodes → k ≤ q.x → at q l v k ≤ q.bound → (n : ℕ) × Trace l n v k
