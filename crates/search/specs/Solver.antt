-- The network and the problem that a reduced problem's numbers describe, and which request's they are.
-- Assumes nothing.
use Rattle.std.specs.Prelude.{ℕ, ◌<◌, ◌≡◌, length}
use Rattle.network.specs.Net.{Net}
use Rattle.network.specs.Problem.{Problem}
use Rattle.search.specs.declared.reduced.Hop.{Hop}
use Rattle.search.specs.declared.reduced.Reduced.{Reduced}
use Rattle.search.specs.Hops.{nth_hop}

-- link i of a reduced problem
abbrev pub hop : Reduced → ℕ → Hop
hop p i = nth_hop p.hops.now i

-- its kept weights and its scaled weights, with their bounds
unfoldable pub problem_of : Reduced → Problem
problem_of p =
    record { kept = λ i. (hop p i).kept; bound = p.bound; scaled_by = λ i. (hop p i).step; x = p.x }

-- its nodes, its links with their ends, and which of them are usable. Nothing that reads a table asks for delays and costs
unfoldable pub net_in : Reduced → Net
net_in p =
    record {
      nodes = p.nodes;
      links = length p.hops.now;
      tail = λ i. (hop p i).tail;
      head = λ i. (hop p i).head;
      usable = λ i. (hop p i).usable;
      delay = λ i. 0;
      cost = λ i. 0;
    }

-- two networks that agree in their nodes, in their links' ends and in which links are usable
pub record SameEdges (g o : Net) : Type 0 where
  pub nodes : g.nodes ≡ o.nodes
  pub links : g.links ≡ o.links
  pub tail : (i : ℕ) → i < g.links → g.tail i ≡ o.tail i
  pub head : (i : ℕ) → i < g.links → g.head i ≡ o.head i
  pub usable : (i : ℕ) → i < g.links → g.usable i ≡ o.usable i

-- two problems that agree at every link below n
pub record SameWeights (n : ℕ) (q o : Problem) : Type 0 where
  pub x : q.x ≡ o.x
  pub bound : q.bound ≡ o.bound
  pub kept : (i : ℕ) → i < n → q.kept i ≡ o.kept i
  pub scaled_by : (i : ℕ) → i < n → q.scaled_by i ≡ o.scaled_by i

-- p has the edges of the network g and the weights of the problem q
pub record Reduces (g : Net) (q : Problem) (p : Reduced) : Type 0 where
  pub edges : SameEdges g (net_in p)
  pub weights : SameWeights g.links q (problem_of p)

-- h is link i of the network g with the weights of the problem q
pub record Weighed (g : Net) (q : Problem) (i : ℕ) (h : Hop) : Type 0 where
  pub tail : g.tail i ≡ h.tail
  pub head : g.head i ≡ h.head
  pub usable : g.usable i ≡ h.usable
  pub kept : q.kept i ≡ h.kept
  pub scaled_by : q.scaled_by i ≡ h.step
