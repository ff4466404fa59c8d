-- Hold times on net H of the cases: which nodes of a path are inner and which are not, what a path's delay is and is not, a
-- link's delay for two targets, and the networks that requests see. Along a path the delays that a request sees sum to the
-- path's delay, and along a walk that passes its end they do not.
-- Assumes nothing.
use Prim.Native.Nat.{ℕ}
use mathlib.Core.Path.{◌≡◌, refl, sym, ap}
use mathlib.Core.Bool.{true, true≢false}
use mathlib.Core.List.{[], ◌∷◌}
use native.Mathlib.Omega.{arith}
use Rattle.network.specs.Lists.{All, memb}
use Rattle.network.specs.Net.{Net, Walk, IsPath, sum}
use Rattle.network.proofs.Paths.{walk_of, path_of_lem}
use Rattle.area.specs.Books.{books, inner_nodes, path_delay, hold_into, delay_to, net, net_unheld}
use Rattle.area.proofs.Holds.{delay_of_path, inner_no_end, net_same}
use Rattle.cases.specs.Document01.{none_held}
use Rattle.cases.specs.HoldTimes.{inner_held, all_held, by_node_1, by_node_2}
use Rattle.instances.specs.HoldTimes.{table_h, books_h, one_h, three_h, round_h, to_3, to_1}

-- ---- inner nodes: of no link and of one link none, of two links one, of three two
pub inner_lem : (inner_nodes (table_h all_held) [] ≡ [])
    × (inner_nodes (table_h all_held) one_h ≡ [])
    × (inner_nodes (table_h all_held) by_node_1 ≡ 1 ∷ [])
    × (inner_nodes (table_h all_held) three_h ≡ 2 ∷ 3 ∷ [])
inner_lem = (refl, refl, refl, refl)

-- neither the path's end is among them nor its beginning
pub end_not_inner : memb 1 (inner_nodes (table_h all_held) three_h) ≡ true → ⊥
end_not_inner e = true≢false (sym e)

pub beginning_not_inner : memb 0 (inner_nodes (table_h all_held) three_h) ≡ true → ⊥
beginning_not_inner e = true≢false (sym e)

-- ---- a path's delay: of one link its own; of two links with the hold time of the node between them, and without where
-- that node holds nothing; of three with two hold times
pub delays : (path_delay (table_h all_held) one_h ≡ 2)
    × (path_delay (table_h none_held) by_node_1 ≡ 4)
    × (path_delay (table_h inner_held) by_node_1 ≡ 9)
    × (path_delay (table_h inner_held) by_node_2 ≡ 6)
    × (path_delay (table_h inner_held) three_h ≡ 6)
    × (path_delay (table_h all_held) three_h ≡ 1000006)
delays = (refl, refl, refl, refl, refl, refl)

-- what its ends hold makes no difference
pub ends_not_counted : path_delay (table_h all_held) by_node_1 ≡ path_delay (table_h inner_held) by_node_1
ends_not_counted = refl

-- and it is not the links' delays alone
pub hold_counted : path_delay (table_h inner_held) by_node_1 ≡ path_delay (table_h none_held) by_node_1 → ⊥
hold_counted e = omega (arith, e)

-- ---- what a link's delay takes of the node that it enters: nothing of the target, and all of any other
pub holds_into : (hold_into (table_h all_held) 3 3 ≡ 0)
    × (hold_into (table_h all_held) 3 1 ≡ 5)
    × (hold_into (table_h all_held) 1 3 ≡ 1000000)
    × (hold_into (table_h all_held) 1 1 ≡ 0)
holds_into = (refl, refl, refl, refl)

pub target_not_held : hold_into (table_h all_held) 3 3 ≡ 1000000 → ⊥
target_not_held e = omega (arith, e)

-- link 0 enters node 1, link 1 enters node 3
pub link_delays : (delay_to (table_h all_held) 3 0 ≡ 7)
    × (delay_to (table_h all_held) 1 0 ≡ 2)
    × (delay_to (table_h all_held) 3 1 ≡ 2)
    × (delay_to (table_h all_held) 1 1 ≡ 1000002)
unfolding delay_to
link_delays = (refl, refl, refl, refl)

pub into_inner : delay_to (table_h all_held) 3 0 ≡ 2 → ⊥
unfolding delay_to
into_inner e = omega (arith, e)

pub into_target : delay_to (table_h all_held) 1 0 ≡ 7 → ⊥
unfolding delay_to
into_target e = omega (arith, e)

-- ---- the network that a request sees
-- link 0 has another delay for another target
pub seen_delays : ((net (books_h inner_held) to_3).delay 0 ≡ 7) × ((net (books_h inner_held) to_1).delay 0 ≡ 2)
unfolding books net delay_to
seen_delays = (refl, refl)

pub targets_differ : net (books_h inner_held) to_3 ≡ net (books_h inner_held) to_1 → ⊥
targets_differ e = omega (arith, ap (λ (g : Net). g.delay 0) e, seen_delays.0, seen_delays.1)

-- by the links' own delays link 0 has 2, whatever the target and the hold times
pub own_delays : ((net_unheld (books_h inner_held) to_3).delay 0 ≡ 2) × ((net_unheld (books_h all_held) to_1).delay 0 ≡ 2)
unfolding books net_unheld
own_delays = (refl, refl)

-- so the two differ where an inner node holds something, and where none does they do not
pub held_differs : net (books_h inner_held) to_3 ≡ net_unheld (books_h inner_held) to_3 → ⊥
held_differs e = omega (arith, ap (λ (g : Net). g.delay 0) e, seen_delays.0, own_delays.0)

pub unheld_same : net (books_h none_held) to_3 ≡ net_unheld (books_h none_held) to_3
unfolding books
unheld_same = net_same (books_h none_held) to_3 (refl, (refl, (refl, (refl, tt))))

-- ---- along a path
pub held_path : IsPath (net (books_h all_held) to_3) 0 3 by_node_2
unfolding books net delay_to
held_path = path_of_lem (net (books_h all_held) to_3) 0 3 by_node_2 refl

-- what a request sees sums to the path's delay, as the law says
pub path_sum : sum (net (books_h all_held) to_3).delay by_node_2 ≡ 6
unfolding books
path_sum = delay_of_path (books_h all_held) to_3 0 by_node_2 held_path

-- and the one inner node is neither end
pub inner_apart : All (λ (v : ℕ). (v ≡ 0 → ⊥) × (v ≡ 3 → ⊥)) (2 ∷ [])
unfolding books
inner_apart = inner_no_end (books_h all_held) to_3 0 by_node_2 held_path

-- both ask for a path: a walk that passes node 3 and comes to it again has its end among the inner nodes, and what a request
-- sees sums to less, since it counts nothing where node 3 is entered
pub round_walk : Walk (net (books_h all_held) to_3) 0 3 round_h
unfolding books net delay_to
round_walk = walk_of (net (books_h all_held) to_3) 0 3 round_h refl

pub round_inner : inner_nodes (table_h all_held) round_h ≡ 2 ∷ 3 ∷ 1 ∷ []
round_inner = refl

pub round_sum : sum (net (books_h all_held) to_3).delay round_h ≡ path_delay (table_h all_held) round_h → ⊥
unfolding books net delay_to
round_sum e = omega (arith, e)
