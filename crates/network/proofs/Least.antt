-- What `Best` and `Distance` say: the least of all, not the greatest, and one number. A search's laws are about what it
-- finds; these are about the definitions alone.
-- Assumes nothing.
use mathlib.Core.Path.{◌≡◌, refl}
use mathlib.Core.Bool.{true}
use mathlib.Core.List.{List, [], ◌∷◌}
use Prim.Native.Nat.{ℕ, ◌≤◌, ◌<◌}
use native.Mathlib.Omega.{arith}
use lib.ListN.{length}
use Rattle.network.specs.Net.{Net, Some, sum}
use Rattle.network.specs.Problem.{Problem, Solves, Best, Distance}

module _ (g : Net) (q : Problem) (s t : ℕ) (p : List ℕ) where
  -- all best solutions have the same kept weight
  pub best_same : (o : List ℕ) → Best g q s t p → Best g q s t o → sum q.kept p ≡ sum q.kept o
  best_same o best best' = omega (arith, best.least o best'.solves, best'.least p best.solves)

  -- a solution without kept weight is a best one
  pub weightless_best : Solves g q s t p → sum q.kept p ≡ 0 → Best g q s t p
  weightless_best so none = record { solves = so; least = λ o h. omega (arith, none) }

-- no path is without links
links_some : (p : List ℕ) → Some p → 1 ≤ length p
links_some [] h = absurd h
links_some (i ∷ p) h = omega arith

-- a usable link joins two nodes at distance 1, however long other paths between them are
pub link_distance : (g : Net) (i : ℕ) → i < g.links → g.usable i ≡ true → (g.tail i ≡ g.head i → ⊥)
    → Distance g (g.tail i) (g.head i) 1
link_distance g i low usable apart =
    record {
      reached = (i ∷ [], record { some = tt; walk = (low, usable, refl, refl); distinct = ((apart, tt), (tt, tt)) }, refl);
      fewest = λ p path. links_some p path.some;
    }
