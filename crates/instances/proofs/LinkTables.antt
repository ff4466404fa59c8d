-- Link tables as a search relies on them: net A's links with delays and costs in their ranges, and with some that are not; and
-- what the pass along a path has summed, which is in its range, and what it cannot have.
-- Assumes nothing.
use Prim.Native.Nat.{ℕ, zero, suc, ◌<◌}
use mathlib.Core.Path.{◌≡◌, refl}
use mathlib.Core.List.{List, [], ◌∷◌}
use native.Mathlib.Omega.{arith}
use borrow.Author.Tests.{leb-true}
use lib.Dec.{leb}
use lib.ListN.{get_or}
use Rattle.network.specs.Loops.{every}
use Rattle.network.proofs.Loops.{every_at}
use Rattle.network.specs.Words.{field, LinkTable}
use Rattle.search.specs.Forward.{OnWay}
use Rattle.search.specs.declared.PartialPath.{PartialPath}
use Rattle.cases.specs.Document01.{links_a}
use Rattle.instances.specs.Nets.{column_of}
use Rattle.instances.proofs.Problems.{links_fit_lem}

-- what agrees at each link of four
pub four : {A : Type 0} (f h : ℕ → A) → f 0 ≡ h 0 → f 1 ≡ h 1 → f 2 ≡ h 2 → f 3 ≡ h 3 → (i : ℕ) → i < 4 → f i ≡ h i
four f h a b c d zero low = a
four f h a b c d (suc zero) low = b
four f h a b c d (suc (suc zero)) low = c
four f h a b c d (suc (suc (suc zero))) low = d
four f h a b c d (suc (suc (suc (suc i)))) low = absurd (omega (arith, low))

-- ---- net A's links with their own delays and costs are a link table
own_delay : (i : ℕ) → i < 4 → get_or (column_of links_a 2 4) i 0 ≡ field links_a i 2
own_delay = four (λ i. get_or (column_of links_a 2 4) i 0) (λ i. field links_a i 2) refl refl refl refl

own_cost : (i : ℕ) → i < 4 → get_or (column_of links_a 3 4) i 0 ≡ field links_a i 3
own_cost = four (λ i. get_or (column_of links_a 3 4) i 0) (λ i. field links_a i 3) refl refl refl refl

pub link_table_lem : LinkTable 4 4 links_a (column_of links_a 2 4) (column_of links_a 3 4)
link_table_lem =
    record {
      nodes_some = omega arith;
      nodes_most = omega arith;
      links_most = omega arith;
      whole = refl;
      from = λ i low. (links_fit_lem i low).from;
      to = λ i low. (links_fit_lem i low).to;
      delay = λ i low. omega (arith, own_delay i low, (links_fit_lem i low).delay);
      cost = λ i low. omega (arith, own_cost i low, (links_fit_lem i low).cost);
    }

-- not between three nodes: link 2 leads to node 3; nor of 33
pub link_table_high : (delays costs : List ℕ) → LinkTable 3 4 links_a delays costs → ⊥
link_table_high delays costs h = let high = h.to 2 (omega arith) in omega (arith, high)

pub link_table_large : (delays costs : List ℕ) → LinkTable 33 4 links_a delays costs → ⊥
link_table_large delays costs h = omega (arith, h.nodes_most)

-- a delay of 2,000,000, the most of a link's own and of a hold time, is one that a search takes, and one more is not, nor
-- is such a cost
abbrev pub slow_links : List ℕ
slow_links = 2 ∷ 2 ∷ 2 ∷ 2000000 ∷ []

pub most_delay_table : LinkTable 4 4 links_a slow_links (column_of links_a 3 4)
unfolding every
most_delay_table =
    record {
      nodes_some = omega arith;
      nodes_most = omega arith;
      links_most = omega arith;
      whole = refl;
      from = λ i low. (links_fit_lem i low).from;
      to = λ i low. (links_fit_lem i low).to;
      delay = λ i low. leb-true (get_or slow_links i 0) 2000000 (every_at (λ j. leb (get_or slow_links j 0) 2000000) i 4 low refl);
      cost = λ i low. omega (arith, own_cost i low, (links_fit_lem i low).cost);
    }

pub delay_over : (costs : List ℕ) → LinkTable 4 4 links_a (2 ∷ 2 ∷ 2 ∷ 2000001 ∷ []) costs → ⊥
delay_over costs h = let high = h.delay 3 (omega arith) in omega (arith, high)

pub cost_over : (delays : List ℕ) → LinkTable 4 4 links_a delays (2000001 ∷ []) → ⊥
cost_over delays h = let high = h.cost 0 (omega arith) in omega (arith, high)

-- ---- what the pass along a path has after at most one link of such a table, at one of four nodes
abbrev pub partial : ℕ → ℕ → ℕ → ℕ → PartialPath
partial v links delay cost = record { node = v; links = links; delay = delay; cost = cost }

pub on_way : OnWay 4 1 (partial 3 1 2000000 2000000)
on_way = record { node = omega arith; links = omega arith; delay = omega arith; cost = omega arith }

-- not two links, nor more delay or cost than one link has, nor a fifth node
pub two_links : OnWay 4 1 (partial 3 2 0 0) → ⊥
two_links h = omega (arith, h.links)

pub more_delay : OnWay 4 1 (partial 3 1 2000001 0) → ⊥
more_delay h = omega (arith, h.delay)

pub more_cost : OnWay 4 1 (partial 3 1 0 2000001) → ⊥
more_cost h = omega (arith, h.cost)

pub fifth_node : OnWay 4 1 (partial 4 1 0 0) → ⊥
fifth_node h = omega (arith, h.node)
