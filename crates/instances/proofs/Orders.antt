-- The order of circuits: numbers that rise, and some that do not; a circuit put at its place; circuits by rising number; the same
-- bookings in another order, and other bookings; and areas that come to the same bookings in different ways, which have the same
-- words of circuits.
-- Assumes nothing.
use Prim.Native.Nat.{ℕ, ◌*◌}
use mathlib.Core.Path.{◌≡◌, refl, ap}
use mathlib.Core.List.{List, [], ◌∷◌, ◌++◌}
use mathlib.Core.Logic.{inl, inr}
use native.Mathlib.Omega.{arith}
use lib.ListN.{length, get_or, replicate}
use Rattle.area.specs.Station.{Circuit, words_in, held_words, station, table_in, circuit_of}
use Rattle.area.specs.Books.{numbers, books}
use Rattle.area.specs.Held.{number_at, place_of}
use Rattle.area.specs.Formed.{WellFormed, well_formed}
use Rattle.area.specs.Load.{table_of}
use Rattle.area.specs.Moves.{words_of, added, removed}
use Rattle.area.specs.Order.{Rising, placed, by_number, Among, SameBookings}
use Rattle.area.proofs.Formed.{formed_says}
use Rattle.area.proofs.Order.{same_by_number, equal_same, books_by_number}
use Rattle.area.proofs.SameWords.{same_words}
use Rattle.area.proofs.WordsAt.{words_length}
use Rattle.ledger.specs.Entries.{Ledger}
use Rattle.ledger.specs.History.{arranged}
use Rattle.cases.specs.Document01.{links_a, unheld, three}
use Rattle.cases.specs.SteadyList.{net_s1}
use Rattle.instances.specs.Nets.{straight}
use Rattle.instances.specs.Areas.{fresh_a, circuit, held_a, two_a, before_a}
use Rattle.instances.proofs.Areas.{seven, eight, two_formed}

-- ---- numbers that rise
pub rising : Rising (2 ∷ 5 ∷ 7 ∷ [])
rising = ((omega arith, (omega arith, tt)), ((omega arith, tt), (tt, tt)))

-- none, and any one
pub none_rising : Rising []
none_rising = tt

pub one_rising : (n : ℕ) → Rising (n ∷ [])
one_rising n = (tt, tt)

-- not a number twice, nor a falling pair, wherever it stands
pub twice_not_rising : Rising (2 ∷ 5 ∷ 5 ∷ []) → ⊥
twice_not_rising h = omega (arith, h.1.0.0)

pub pair_not_rising : Rising (2 ∷ 7 ∷ 5 ∷ []) → ⊥
pair_not_rising h = omega (arith, h.1.0.0)

pub apart_not_rising : Rising (5 ∷ 7 ∷ 2 ∷ []) → ⊥
apart_not_rising h = omega (arith, h.0.1.0)

-- ---- a circuit put at its place
-- the circuits of docs/steady-list.md beside circuit 7
abbrev pub two : Circuit
two = circuit 2 3 straight

abbrev pub five : Circuit
five = circuit 5 2 (1 ∷ 2 ∷ [])

-- before all, between, behind all, and where there is none
pub record Placed : Type 0 where
  pub before : placed two (five ∷ seven ∷ []) ≡ two ∷ five ∷ seven ∷ []
  pub between : placed five (two ∷ seven ∷ []) ≡ two ∷ five ∷ seven ∷ []
  pub behind : placed seven (two ∷ five ∷ []) ≡ two ∷ five ∷ seven ∷ []
  pub alone : placed five [] ≡ five ∷ []

pub at_place : Placed
at_place = record { before = refl; between = refl; behind = refl; alone = refl }

-- its words: 34 of them, with 0 in each path word that it does not use
pub seven_words : words_of seven ≡ 7 ∷ 4 ∷ 3 ∷ 0 ∷ 1 ∷ 2 ∷ replicate 28 0
seven_words = refl

-- the number of the first circuit, so of lists that differ in it
first_number : {l m : List Circuit} → l ≡ m → get_or (numbers l) 0 0 ≡ get_or (numbers m) 0 0
first_number e = ap (λ (l : List Circuit). get_or (numbers l) 0 0) e

pub not_in_front : placed seven (five ∷ []) ≡ seven ∷ five ∷ [] → ⊥
not_in_front h = omega (arith, first_number h)

-- ---- circuits by rising number
pub record ByNumber : Type 0 where
  pub none : by_number [] ≡ []
  pub in_turn : by_number (seven ∷ two ∷ five ∷ []) ≡ two ∷ five ∷ seven ∷ []
  pub falling : by_number (seven ∷ five ∷ two ∷ []) ≡ two ∷ five ∷ seven ∷ []
  pub already : by_number (two ∷ five ∷ seven ∷ []) ≡ two ∷ five ∷ seven ∷ []

pub ordered : ByNumber
ordered = record { none = refl; in_turn = refl; falling = refl; already = refl }

pub not_as_given : by_number (seven ∷ two ∷ []) ≡ seven ∷ two ∷ [] → ⊥
not_as_given h = omega (arith, first_number h)

-- a ledger's entries, the newest first, as an area has them: another list, with the same books
abbrev pub entries : Ledger
entries = record { table = table_of (unheld links_a); held = five ∷ two ∷ seven ∷ [] }

pub entries_arranged : arranged entries ≡ record { table = table_of (unheld links_a); held = two ∷ five ∷ seven ∷ [] }
entries_arranged = refl

pub entries_differ : arranged entries ≡ entries → ⊥
entries_differ h = omega (arith, first_number (ap (λ (l : Ledger). l.held) h))

pub entries_books : books (arranged entries) ≡ books entries
entries_books = books_by_number (table_of (unheld links_a)) (five ∷ two ∷ seven ∷ [])

-- ---- among circuits, wherever it stands, and not where only another number, other units or another path is
pub among : Among two (seven ∷ two ∷ [])
among = inr (inl refl)

alone : {c d : Circuit} → Among c (d ∷ []) → c ≡ d
alone (inl e) = e
alone (inr h) = absurd h

pub number_not_among : Among seven (circuit 8 4 three ∷ []) → ⊥
number_not_among h = omega (arith, ap (λ (c : Circuit). c.number) (alone h))

pub units_not_among : Among seven (circuit 7 5 three ∷ []) → ⊥
units_not_among h = omega (arith, ap (λ (c : Circuit). c.units) (alone h))

pub path_not_among : Among seven (circuit 7 4 straight ∷ []) → ⊥
path_not_among h = omega (arith, ap (λ (c : Circuit). length c.path) (alone h))

-- ---- the same bookings
-- in another order
pub swapped_same : SameBookings (seven ∷ eight ∷ []) (eight ∷ seven ∷ [])
swapped_same = same_by_number (eight ∷ seven ∷ [])

-- and with one twice, which a rising order does not have
pub twice_same : SameBookings (seven ∷ seven ∷ []) (seven ∷ [])
twice_same c = (once, λ h. inr h)
  where
    once : Among c (seven ∷ seven ∷ []) → Among c (seven ∷ [])
    once (inl e) = inl e
    once (inr h) = h

-- not one of them alone, nor another number, nor another path
pub fewer_differ : SameBookings (seven ∷ eight ∷ []) (seven ∷ []) → ⊥
fewer_differ h = omega (arith, ap (λ (c : Circuit). c.number) (alone ((h eight).0 (inr (inl refl)))))

pub numbers_differ : SameBookings (seven ∷ []) (circuit 8 4 three ∷ []) → ⊥
numbers_differ h = number_not_among ((h seven).0 (inl refl))

pub paths_differ : SameBookings (seven ∷ []) (circuit 7 4 straight ∷ []) → ⊥
paths_differ h = path_not_among ((h seven).0 (inl refl))

-- ---- the places of circuit numbers among 2, 5 and 7: two that are held, one before all, one between and one behind all
pub record Places : Type 0 where
  pub two_first : place_of net_s1 2 ≡ 0
  pub seven_third : place_of net_s1 7 ≡ 2
  pub one_before : place_of net_s1 1 ≡ 0
  pub six_between : place_of net_s1 6 ≡ 2
  pub nine_behind : place_of net_s1 9 ≡ 3
  pub two_there : number_at net_s1 0 ≡ 2
  pub seven_there : number_at net_s1 2 ≡ 7

pub places : Places
unfolding net_s1 place_of
places = record { two_first = refl; seven_third = refl; one_before = refl; six_between = refl; nine_behind = refl; two_there = refl; seven_there = refl }

pub seven_not_second : place_of net_s1 7 ≡ 1 → ⊥
seven_not_second h = omega (arith, h, places.seven_third)

-- ---- a circuit moves one place on where another is put before it, and back where that one goes
pub moved_on : words_in (before_a 2 3) 1 ≡ words_in held_a 0
unfolding before_a
moved_on = refl

pub moved_back : words_in (removed (two_a 8 10) 0) 0 ≡ words_in (two_a 8 10) 1
unfolding two_a removed
moved_back = refl

-- ---- the words of circuits: 34 of each
pub words_long : (w : List ℕ) → length (held_words w) ≡ 34 * get_or w 2 0
words_long w = words_length w 1283 (34 * get_or w 2 0)

pub two_words : held_words (two_a 8 10) ≡ words_of seven ++ words_of eight
unfolding two_a
two_words = refl

-- circuit 8 admitted before circuit 7, and 9 as well, which was released
abbrev pub other_way : List ℕ
unfolding fresh_a added removed
other_way = removed (added (added (added fresh_a 0 eight) 0 seven) 2 (circuit 9 1 three)) 2

pub other_formed : WellFormed other_way
unfolding fresh_a added removed well_formed table_in circuit_of
other_formed = formed_says other_way refl

-- the bookings are the same, so the words of circuits are
pub same_held : (station (two_a 8 10)).held ≡ (station other_way).held
unfolding two_a added removed station table_in circuit_of
same_held = refl

pub words_agree : held_words (two_a 8 10) ≡ held_words other_way
words_agree = same_words (two_a 8 10) other_way two_formed other_formed (equal_same same_held)

-- not so the words past the last circuit
pub past_differ : get_or (two_a 8 10) 1351 0 ≡ get_or other_way 1351 0 → ⊥
unfolding two_a added removed
past_differ h = omega (arith, h)

-- nor with other bookings
pub words_differ : held_words (two_a 8 10) ≡ held_words (two_a 9 10) → ⊥
unfolding two_a
words_differ h = let same : ◌≡◌ {A = ℕ} 8 9 = ap (λ (l : List ℕ). get_or l 34 0) h in omega (arith, same)
