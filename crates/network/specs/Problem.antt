-- A reduced problem, its solutions, and the distance.
-- Assumes nothing.
use Rattle.std.specs.Prelude.{ℕ, ◌≤◌, ◌≡◌, List, length}
use Rattle.network.specs.Net.{Net, IsPath, sum}

-- one reduced problem: a kept weight with its bound, and another weight, already scaled, with the bound x
pub record Problem : Type 0 where
  pub kept : ℕ → ℕ
  pub bound : ℕ
  pub scaled_by : ℕ → ℕ
  pub x : ℕ

pub record Solves (g : Net) (q : Problem) (s t : ℕ) (p : List ℕ) : Type 0 where
  pub path : IsPath g s t p
  pub within : sum q.kept p ≤ q.bound
  pub reduced : sum q.scaled_by p ≤ q.x

-- a solution of least kept weight among all solutions
pub record Best (g : Net) (q : Problem) (s t : ℕ) (p : List ℕ) : Type 0 where
  pub solves : Solves g q s t p
  pub least : (o : List ℕ) → Solves g q s t o → sum q.kept p ≤ sum q.kept o

abbrev pub NoPath : Net → ℕ → ℕ → Type 0
NoPath g s t = (p : List ℕ) → IsPath g s t p → ⊥

abbrev pub NoSolution : Net → Problem → ℕ → ℕ → Type 0
NoSolution g q s t = (p : List ℕ) → Solves g q s t p → ⊥

-- document 01's distance: k is the fewest links of any usable path
pub record Distance (g : Net) (s t k : ℕ) : Type 0 where
  pub reached : (p : List ℕ) × IsPath g s t p × (length p ≡ k)
  pub fewest : (p : List ℕ) → IsPath g s t p → k ≤ length p
