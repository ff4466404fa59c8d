-- A network as a search sees it, its paths and their sums.
-- Assumes nothing.
use Rattle.std.specs.Prelude.{ℕ, ◌+◌, ◌<◌, ◌≡◌, Bool, true, false, ◌&&◌, List, [], ◌∷◌, map, ltb, eqb}
use Rattle.network.specs.Lists.{Distinct, distinctb}

-- all that a search may depend on: nodes 0 to nodes − 1; links 0 to links − 1, each from `tail` to `head`;
-- which of them are usable; their delays and costs
pub record Net : Type 0 where
  pub nodes : ℕ
  pub links : ℕ
  pub tail : ℕ → ℕ
  pub head : ℕ → ℕ
  pub usable : ℕ → Bool
  pub delay : ℕ → ℕ
  pub cost : ℕ → ℕ

-- both ends of every link are nodes
pub record Ends (g : Net) : Type 0 where
  pub tails : (i : ℕ) → i < g.links → g.tail i < g.nodes
  pub heads : (i : ℕ) → i < g.links → g.head i < g.nodes

-- p is usable links from s to t, each beginning where the one before ended
abbrev pub Walk : Net → ℕ → ℕ → List ℕ → Type 0
Walk g s t [] = s ≡ t
Walk g s t (i ∷ p) = (i < g.links) × (g.usable i ≡ true) × (g.tail i ≡ s) × Walk g (g.head i) t p

abbrev pub walkb : Net → ℕ → ℕ → List ℕ → Bool
walkb g s t [] = eqb s t
walkb g s t (i ∷ p) = ltb i g.links && (g.usable i && (eqb (g.tail i) s && walkb g (g.head i) t p))

-- one link or more
abbrev pub Some : List ℕ → Type 0
Some [] = ⊥
Some (i ∷ p) = Unit {0}

abbrev pub someb : List ℕ → Bool
someb [] = false
someb (i ∷ p) = true

-- the nodes that p passes, from s on
abbrev pub nodes_of : Net → ℕ → List ℕ → List ℕ
nodes_of g s p = s ∷ map g.head p

-- document 01's path: one or more links, each beginning where the one before ended, passing no node twice
pub record IsPath (g : Net) (s t : ℕ) (p : List ℕ) : Type 0 where
  pub some : Some p
  pub walk : Walk g s t p
  pub distinct : Distinct (nodes_of g s p)

-- the same as a test
abbrev pub is_pathb : Net → ℕ → ℕ → List ℕ → Bool
is_pathb g s t p = someb p && (walkb g s t p && distinctb (nodes_of g s p))

-- a weight's sum over a path's links
abbrev pub sum : (ℕ → ℕ) → List ℕ → ℕ
sum w [] = 0
sum w (i ∷ p) = w i + sum w p
