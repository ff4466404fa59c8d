-- Hold times as they are loaded: lists of them that fit and lists that do not, tables likewise; which words a load writes and
-- which it leaves, and that the area is read back as what was given. Stations.antt has the refusals of a load.
-- Assumes nothing.
use Prim.Native.Nat.{ℕ, ◌+◌}
use mathlib.Core.Path.{◌≡◌, refl, ap}
use mathlib.Core.Bool.{true, false}
use mathlib.Core.List.{List, [], ◌∷◌, ◌++◌}
use native.Mathlib.Omega.{arith}
use lib.ListN.{replicate, get_or}
use Rattle.network.specs.Loops.{every}
use Rattle.area.specs.Layout.{first_hold}
use Rattle.area.specs.Station.{Table, Station, hold_of, words_at, table_in, station}
use Rattle.area.specs.Formed.{HoldTimesFit, TableFits, WellFormed, links_fit, hold_times_fit, table_fits}
use Rattle.area.specs.Load.{fresh, load_answer, area_loaded}
use Rattle.area.specs.Refusals.{grants}
use Rattle.area.proofs.Formed.{hold_times_says, table_says}
use Rattle.area.proofs.Loads.{accepted_station, accepted_formed}
use Rattle.ledger.specs.Entries.{opened}
use Rattle.cases.specs.Document01.{none_held}
use Rattle.cases.specs.HoldTimes.{inner_held, all_held}
use Rattle.instances.specs.HoldTimes.{input_h, table_h}

-- ---- hold times for 32 nodes, each the greatest
pub most_fit : HoldTimesFit 32 (replicate 32 1000000)
unfolding hold_times_fit every
most_fit = hold_times_says 32 (replicate 32 1000000) refl

-- not one fewer, nor one more, nor one that is greater, wherever it stands
pub fewer_unfit : HoldTimesFit 32 (replicate 31 1000000) → ⊥
fewer_unfit h = omega (arith, h.count)

pub more_unfit : HoldTimesFit 32 (replicate 33 1000000) → ⊥
more_unfit h = omega (arith, h.count)

pub first_greater : HoldTimesFit 32 (1000001 ∷ replicate 31 0) → ⊥
first_greater h = let high = h.each 0 (omega arith) in omega (arith, high)

pub last_greater : HoldTimesFit 32 (replicate 31 0 ++ 1000001 ∷ []) → ⊥
last_greater h = let high = h.each 31 (omega arith) in omega (arith, high)

-- and the test says the same
pub tested : (hold_times_fit 32 (replicate 32 1000000) ≡ true)
    × (hold_times_fit 32 (replicate 31 1000000) ≡ false)
    × (hold_times_fit 32 (replicate 33 1000000) ≡ false)
    × (hold_times_fit 32 (1000001 ∷ replicate 31 0) ≡ false)
    × (hold_times_fit 32 (replicate 31 0 ++ 1000001 ∷ []) ≡ false)
unfolding hold_times_fit every
tested = (refl, refl, refl, refl, refl)

-- ---- a table: net H with hold times that fit, and with one that does not
abbrev pub greater_held : List ℕ
greater_held = 0 ∷ 5 ∷ 1000001 ∷ 0 ∷ []

pub table_lem : TableFits (table_h all_held)
unfolding table_fits links_fit hold_times_fit every
table_lem = table_says (table_h all_held) refl

pub greater_no_fit : TableFits (table_h greater_held) → ⊥
greater_no_fit h = let high = h.hold_times.each 2 (omega arith) in omega (arith, high)

pub table_tested : (table_fits (table_h all_held) ≡ true) × (table_fits (table_h greater_held) ≡ false)
unfolding table_fits links_fit hold_times_fit every
table_tested = (refl, refl)

-- ---- a load, on an area in which every word is 7
abbrev pub sevens : List ℕ
sevens = replicate 3491 7

pub accepted : load_answer sevens (input_h all_held) ≡ grants tt
unfolding load_answer
accepted = refl

abbrev pub after : List ℕ
after = area_loaded sevens (input_h all_held)

-- words 3,459 to 3,462 are the hold times of nodes 0 to 3, and the words on either side keep their contents
pub held_words : words_at after 3458 6 ≡ 7 ∷ 1000000 ∷ 5 ∷ 1 ∷ 1000000 ∷ 7 ∷ []
unfolding area_loaded
held_words = refl

-- so do the last word and the words right behind the 30 link words, whose last two are here too
pub kept_words : (get_or after 3490 0 ≡ 7) × (words_at after 31 4 ≡ 1 ∷ 10 ∷ 7 ∷ 7 ∷ [])
unfolding area_loaded
kept_words = (refl, refl)

-- word 3,460 is the hold time of node 1, and not that of another
pub second_not_zero : get_or after (first_hold + 1) 0 ≡ 1000000 → ⊥
unfolding area_loaded
second_not_zero e = omega (arith, e)

-- the area is read back as what was given, and it is well formed
pub read_back : station after ≡ fresh (input_h all_held)
read_back = accepted_station sevens (input_h all_held) accepted

pub after_formed : WellFormed after
after_formed = accepted_formed sevens (input_h all_held) accepted

-- not with other hold times
pub not_as_others : table_in after ≡ table_h inner_held → ⊥
unfolding area_loaded table_in
not_as_others e = omega (arith, ap (λ (t : Table). hold_of t 0) e)

-- ---- the ledger opens with the hold times that were loaded, and with no others
pub opens_with : (opened (input_h inner_held)).table.hold_times ≡ 0 ∷ 5 ∷ 1 ∷ 0 ∷ []
opens_with = refl

pub opens_alone : opened (input_h inner_held) ≡ opened (input_h none_held) → ⊥
opens_alone e = omega (arith, ap (λ (s : Station). hold_of s.table 1) e)
