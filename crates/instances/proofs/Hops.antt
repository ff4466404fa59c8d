-- A reduced problem's links: those of M3's problem one on net A, and problems whose links they are not; numbers that are in
-- their ranges, and some that are not; what each problem gives.
-- Assumes nothing.
use Prim.Native.Nat.{ℕ, zero, suc, ◌<◌}
use mathlib.Core.Path.{◌≡◌, refl, sym}
use mathlib.Core.Bool.{Bool, true, true≢false}
use mathlib.Core.List.{List, [], ◌∷◌}
use native.Mathlib.Omega.{arith}
use lib.ListN.{replicate}
use Rattle.network.specs.Loops.{iter, first}
use Rattle.network.specs.NodeSet.{member, inserted}
use Rattle.network.specs.Cut.{noted, follow}
use Rattle.network.specs.Words.{net_of}
use Rattle.network.specs.Scale.{scaled}
use Rattle.network.specs.Reduce.{problem_one, problem_two, one, two, no_solution, granted}
use Rattle.network.specs.declared.answer.Reduction.TheVariants.{One, Two}
use Rattle.search.specs.declared.reduced.Hop.{Hop}
use Rattle.search.specs.declared.reduced.Reduced.{Reduced}
use Rattle.search.specs.Hops.{nth_hop, HopsFit}
use Rattle.search.specs.ebf.Table.{cell, cells, filled, initialised, improved, relaxed, offered, column, round, rounds, ebf}
use Rattle.search.specs.ebf.Trace.{place_back, step_back, traced}
use Rattle.search.specs.ebf.Solve.{path_in, answer_in, solve_in, solve}
use Rattle.search.specs.Roles.{problem_by, outcome_by}
use Rattle.search.specs.Solver.{SameEdges, SameWeights, Reduces, Weighed, net_in, problem_of}
use Rattle.search.proofs.Reductions.{weighed_fits, weighed_reduces}
use Rattle.cases.specs.Document01.{links_a, m3, three}
use Rattle.instances.specs.Nets.{column_of, net_a, shut_a, m4}
use Rattle.instances.proofs.LinkTables.{four, link_table_lem}
use Rattle.instances.proofs.Ranges.{m3_terms}
use Rattle.instances.proofs.Searches.{other, alike}

-- ---- the links of M3's problem one: the delay is kept, the cost scaled to x = 8
abbrev hop : ℕ → ℕ → Bool → ℕ → ℕ → Hop
hop from to flag kept step = record { tail = from; head = to; usable = flag; kept = kept; step = step }

abbrev pub hops_a : List Hop
hops_a = hop 0 1 true 2 2 ∷ hop 1 2 true 2 2 ∷ hop 2 3 true 2 2 ∷ hop 0 3 true 9 1 ∷ []

pub weighed : (i : ℕ) → i < 4 → Weighed net_a (problem_by net_a m3 8 One) i (nth_hop hops_a i)
unfolding net_of problem_by scaled
weighed zero low = record { tail = refl; head = refl; usable = refl; kept = refl; scaled_by = refl }
weighed (suc zero) low = record { tail = refl; head = refl; usable = refl; kept = refl; scaled_by = refl }
weighed (suc (suc zero)) low = record { tail = refl; head = refl; usable = refl; kept = refl; scaled_by = refl }
weighed (suc (suc (suc zero))) low = record { tail = refl; head = refl; usable = refl; kept = refl; scaled_by = refl }
weighed (suc (suc (suc (suc i)))) low = absurd (omega (arith, low))

-- not with the weights exchanged, as problem two has them, nor where the link is not usable
pub exchanged : Weighed net_a (problem_by net_a m3 8 Two) 0 (nth_hop hops_a 0) → ⊥
unfolding net_of problem_by
exchanged h = omega (arith, h.kept)

pub not_usable : Weighed shut_a (problem_by shut_a m3 8 One) 0 (nth_hop hops_a 0) → ⊥
unfolding net_of
not_usable h = true≢false (sym h.usable)

-- ---- they are in their ranges, and not between three nodes, nor of 33
pub hops_fit : HopsFit 4 8 8 hops_a
unfolding net_of
hops_fit = weighed_fits 4 4 links_a (replicate 4 true) (column_of links_a 2 4) (column_of links_a 3 4) m3 8 One hops_a link_table_lem m3_terms (omega arith) refl weighed 8 refl

pub head_high : HopsFit 3 8 8 hops_a → ⊥
head_high h = omega (arith, h.head 2 (omega arith))

pub many_nodes : HopsFit 33 8 8 hops_a → ⊥
many_nodes h = omega (arith, h.nodes_most)

-- ---- the reduced problem has net A's edges and the problem's weights
abbrev pub reduced : Reduced
reduced = record { nodes = 4; x = 8; bound = 8; hops = record { ref_ptr = (0, 0); now = hops_a }; fits = hops_fit }

pub reduces : Reduces net_a (problem_by net_a m3 8 One) reduced
unfolding net_of
reduces = weighed_reduces 4 4 links_a (replicate 4 true) (column_of links_a 2 4) (column_of links_a 3 4) m3 8 One hops_a reduced refl refl refl refl refl weighed

-- not those of problem two, nor of net A with no usable link
pub not_two : Reduces net_a (problem_by net_a m3 8 Two) reduced → ⊥
unfolding problem_by problem_of
not_two h = omega (arith, h.weights.bound)

pub not_shut : Reduces shut_a (problem_by shut_a m3 8 One) reduced → ⊥
unfolding net_of net_in
not_shut h = true≢false (sym (h.edges.usable 0 (omega arith)))

-- ---- what each problem gives, its weights in their roles: M3's problem one a path, M4's problem two alone
pub given : (outcome_by net_a m3 8 One ≡ granted One three)
    × (outcome_by net_a m4 8 One ≡ no_solution)
    × (outcome_by net_a m4 8 Two ≡ granted Two three)
unfolding net_of outcome_by problem_by solve solve_in answer_in path_in ebf rounds round column offered relaxed improved initialised filled cell cells traced step_back place_back noted follow member inserted scaled iter first
given = (refl, refl, refl)

-- ---- networks with the same edges, and problems with the same weights

pub same_edges : SameEdges net_a other
same_edges = record { nodes = alike.nodes; links = alike.links; tail = alike.tail; head = alike.head; usable = alike.usable }

pub edges_differ : SameEdges net_a shut_a → ⊥
unfolding net_of
edges_differ h = true≢false (h.usable 0 (omega arith))

-- two problems with other weights past the last link are the same, and problems one and two are not
pub same_weights : SameWeights 4 (one net_a m3 1) (one other m3 1)
unfolding net_of problem_one
same_weights =
    record {
      x = refl;
      bound = refl;
      kept = alike.delay;
      scaled_by = four (one net_a m3 1).scaled_by (one other m3 1).scaled_by refl refl refl refl;
    }

pub weights_differ : SameWeights 4 (one net_a m3 1) (two net_a m3 1) → ⊥
unfolding problem_one problem_two
weights_differ h = omega (arith, h.bound)
