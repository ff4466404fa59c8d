-- Areas that are well formed, and areas that differ from them in one number, in the order of their circuits or in a path word
-- and are not; listings that are right, and some that are not. Orders.antt has the order itself.
-- Assumes nothing.
use Prim.Native.Nat.{ℕ}
use mathlib.Core.Path.{◌≡◌, refl, sym, ap}
use mathlib.Core.Bool.{true≢false}
use mathlib.Core.List.{List, [], ◌∷◌}
use native.Mathlib.Omega.{arith}
use lib.ListN.{replicate, set}
use Rattle.area.specs.Station.{Circuit, Station, tail_of, hold_of, table_in, circuit_of}
use Rattle.area.specs.Formed.{UnusedClear, unused_clear, WellFormed, well_formed}
use Rattle.area.specs.Moves.{words_of, added, Untouched}
use Rattle.area.specs.Held.{ListsHeld}
use Rattle.area.proofs.Formed.{unused_says, formed_says, unformed}
use Rattle.area.proofs.Added.{added_untouched}
use Rattle.area.specs.Load.{fresh, loaded, area_loaded}
use Rattle.cases.specs.Document01.{links_a, links_b, blank, four_nodes, unheld, three}
use Rattle.cases.specs.HoldTimes.{inner_held}
use Rattle.instances.specs.Nets.{straight}
use Rattle.instances.specs.Areas.{fresh_a, fresh_b, circuit, held_a, two_a, before_a}

-- ---- the circuits of these areas
abbrev pub seven : Circuit
seven = circuit 7 4 three

abbrev pub eight : Circuit
eight = circuit 8 10 straight

-- ---- well formed: freshly loaded, with a circuit, with two
pub fresh_formed : WellFormed fresh_a
unfolding fresh_a well_formed table_in circuit_of
fresh_formed = formed_says fresh_a refl

pub held_formed : WellFormed held_a
unfolding held_a well_formed table_in circuit_of
held_formed = formed_says held_a refl

-- circuit 8 takes the 10 units that link 3 has
pub two_formed : WellFormed (two_a 8 10)
unfolding two_a well_formed table_in circuit_of
two_formed = formed_says (two_a 8 10) refl

-- ---- not well formed
-- the second circuit has the number of the first
pub twice_unformed : WellFormed (two_a 7 10) → ⊥
unfolding two_a well_formed table_in circuit_of
twice_unformed = unformed (two_a 7 10) refl

-- the circuits stand in another order; with a lower number the second may stand before the first
pub turned_unformed : WellFormed (before_a 8 10) → ⊥
unfolding before_a well_formed table_in circuit_of
turned_unformed = unformed (before_a 8 10) refl

pub lower_formed : WellFormed (before_a 2 10)
unfolding before_a well_formed table_in circuit_of
lower_formed = formed_says (before_a 2 10) refl

-- its units are over the capacity
pub over_unformed : WellFormed (two_a 8 11) → ⊥
unfolding two_a well_formed table_in circuit_of
over_unformed = unformed (two_a 8 11) refl

-- two circuits, each within the capacity, are over it together
pub sum_unformed : WellFormed (added (two_a 8 10) 2 (circuit 9 1 straight)) → ⊥
unfolding two_a added well_formed table_in circuit_of
sum_unformed = unformed (added (two_a 8 10) 2 (circuit 9 1 straight)) refl

-- on net B links 3 and 2 are the path of a circuit, and links 3, 0, 1 and 2 are none, as they return to node 1
pub path_formed : WellFormed (added fresh_b 0 (circuit 1 1 (3 ∷ 2 ∷ [])))
unfolding fresh_b added well_formed table_in circuit_of
path_formed = formed_says (added fresh_b 0 (circuit 1 1 (3 ∷ 2 ∷ []))) refl

pub round_unformed : WellFormed (added fresh_b 0 (circuit 1 1 (3 ∷ 0 ∷ 1 ∷ 2 ∷ []))) → ⊥
unfolding fresh_b added well_formed table_in circuit_of
round_unformed = unformed (added fresh_b 0 (circuit 1 1 (3 ∷ 0 ∷ 1 ∷ 2 ∷ []))) refl

-- ---- unused path words
-- of a circuit by three links path words 0 to 2 are used, which are words 3 to 5, and all others are 0
pub seven_clear : UnusedClear (words_of seven)
unfolding unused_clear
seven_clear = unused_says (words_of seven) refl

pub used_clear : UnusedClear (set (words_of seven) 5 9)
unfolding unused_clear
used_clear = unused_says (set (words_of seven) 5 9) refl

pub first_unclear : UnusedClear (set (words_of seven) 6 1) → ⊥
first_unclear h = omega (arith, h 6 (omega arith) (omega arith))

pub last_unclear : UnusedClear (set (words_of seven) 33 1) → ⊥
last_unclear h = omega (arith, h 33 (omega arith) (omega arith))

-- so it is in an area: of circuit 7, by three links, the first and the last unused path word, words 1,289 and 1,316, and of
-- circuit 8, by one, words 1,321 and 1,350
abbrev pub with_word : ℕ → ℕ → List ℕ
with_word i word = set (two_a 8 10) i word

pub seven_first_unformed : WellFormed (with_word 1289 1) → ⊥
unfolding two_a well_formed table_in circuit_of
seven_first_unformed = unformed (with_word 1289 1) refl

pub seven_last_unformed : WellFormed (with_word 1316 1) → ⊥
unfolding two_a well_formed table_in circuit_of
seven_last_unformed = unformed (with_word 1316 1) refl

pub eight_first_unformed : WellFormed (with_word 1321 1) → ⊥
unfolding two_a well_formed table_in circuit_of
eight_first_unformed = unformed (with_word 1321 1) refl

pub eight_last_unformed : WellFormed (with_word 1350 1) → ⊥
unfolding two_a well_formed table_in circuit_of
eight_last_unformed = unformed (with_word 1350 1) refl

-- but the words past the last circuit may be anything, from the first of them to the last
pub open_formed : WellFormed (with_word 1351 4294967295)
unfolding two_a well_formed table_in circuit_of
open_formed = formed_says (with_word 1351 4294967295) refl

pub last_open_formed : WellFormed (with_word 3458 4294967295)
unfolding two_a well_formed table_in circuit_of
last_open_formed = formed_says (with_word 3458 4294967295) refl

-- ---- hold times
-- the hold times of nodes 0 to 3 are words 3,459 to 3,462. On net A loaded with hold times one word is stored: that of node 3
-- may be as great as a hold time may, and no greater
abbrev pub stored : ℕ → ℕ → List ℕ
unfolding area_loaded
stored i word = set (area_loaded blank (four_nodes links_a inner_held)) i word

pub hold_formed : WellFormed (stored 3462 1000000)
unfolding area_loaded well_formed table_in circuit_of
hold_formed = formed_says (stored 3462 1000000) refl

pub hold_unformed : WellFormed (stored 3462 1000001) → ⊥
unfolding area_loaded well_formed table_in circuit_of
hold_unformed = unformed (stored 3462 1000001) refl

-- the word past it is no node's, and may be the greatest word of all; so may the last one
pub past_formed : WellFormed (stored 3463 4294967295)
unfolding area_loaded well_formed table_in circuit_of
past_formed = formed_says (stored 3463 4294967295) refl

pub last_formed : WellFormed (stored 3490 4294967295)
unfolding area_loaded well_formed table_in circuit_of
last_formed = formed_says (stored 3490 4294967295) refl

-- one word too short
pub short_unformed : WellFormed (loaded (replicate 3490 0) (unheld links_a)) → ⊥
unfolding loaded well_formed table_in circuit_of
short_unformed = unformed (loaded (replicate 3490 0) (unheld links_a)) refl

-- ---- untouched: by an added circuit, and not where another table is loaded
pub added_leaves : Untouched fresh_a held_a
unfolding fresh_a held_a
added_leaves = added_untouched fresh_a 0 seven (omega arith) (omega arith) (omega arith)

pub load_touches : Untouched fresh_a fresh_b → ⊥
unfolding fresh_a fresh_b
load_touches h = let same = h.table 3 (omega arith) (omega arith) in omega (arith, same)

-- nor where a hold time is another
pub hold_touches : Untouched fresh_a (set fresh_a 3462 7) → ⊥
unfolding fresh_a
hold_touches h = let same = h.past 3462 (omega arith) in omega (arith, same)

-- ---- a station is another where its table is
pub tables_differ : fresh (unheld links_a) ≡ fresh (unheld links_b) → ⊥
tables_differ h = omega (arith, ap (λ (s : Station). tail_of s.table 0) h)

-- and where only the hold times differ, as these are of the table too
pub hold_times_differ : fresh (unheld links_a) ≡ fresh (four_nodes links_a inner_held) → ⊥
hold_times_differ h = omega (arith, ap (λ (s : Station). hold_of s.table 1) h)

-- ---- listings: in the order of their numbers
pub listed : ListsHeld (seven ∷ eight ∷ []) (7 ∷ 8 ∷ [])
listed = record { count = refl; held = λ k. refl; rising = ((omega arith, tt), (tt, tt)) }

-- and in no other, in whatever order the circuits are given
pub turned_unlisted : ListsHeld (seven ∷ eight ∷ []) (8 ∷ 7 ∷ []) → ⊥
turned_unlisted h = omega (arith, h.rising.0.0)

pub turned_circuits_unlisted : ListsHeld (eight ∷ seven ∷ []) (8 ∷ 7 ∷ []) → ⊥
turned_circuits_unlisted h = omega (arith, h.rising.0.0)

-- not with one number twice, nor with one that is not held
pub twice_unlisted : ListsHeld (seven ∷ eight ∷ []) (7 ∷ 7 ∷ []) → ⊥
twice_unlisted h = true≢false (sym (h.held 8))

pub unheld_unlisted : ListsHeld (seven ∷ eight ∷ []) (7 ∷ 9 ∷ []) → ⊥
unheld_unlisted h = true≢false (h.held 9)
