-- Document 01's well-formed area: the statement with named parts, and the test that the code runs. proofs/Formed.antt
-- shows that the two are equal.
-- Assumes nothing.
use Rattle.std.specs.Prelude.{ℕ, zero, suc, ◌+◌, ◌≤◌, ◌<◌, ◌≡◌, Bool, true, false, not, ◌&&◌, ◌||◌, List, [], ◌∷◌, ltb, leb, eqb, length, get_or}
use Rattle.network.specs.Limits.{least_nodes, least_path_links, least_units, most_capacity, most_cost, most_delay, most_hold, most_links, most_nodes, most_path_links, most_units}
use Rattle.network.specs.Ranges.{in_range}
use Rattle.network.specs.Lists.{All}
use Rattle.network.specs.Loops.{every}
use Rattle.network.specs.NodeSet.{member, inserted}
use Rattle.network.specs.Net.{IsPath}
use Rattle.network.specs.Words.{field}
use Rattle.area.specs.Layout.{area_words, circuit_words, least_number, most_circuits, most_number, path_start}
use Rattle.area.specs.Station.{Table, Circuit, Station, tail_of, head_of, delay_of, cost_of, capacity_of, circuit_of, words_in, circuit_at, circuits, links_in, held_in, table_in, station}
use Rattle.area.specs.Books.{usage, numbers, whole}
use Rattle.area.specs.Order.{Rising}
use Rattle.area.specs.Held.{number_at}

-- ---- the statement
pub record LinkFits (t : Table) (i : ℕ) : Type 0 where
  pub from : tail_of t i < t.nodes
  pub to : head_of t i < t.nodes
  pub apart : tail_of t i ≡ head_of t i → ⊥
  pub delay : delay_of t i ≤ most_delay
  pub cost : cost_of t i ≤ most_cost
  pub capacity : capacity_of t i ≤ most_capacity

-- n hold times, one for each node
pub record HoldTimesFit (n : ℕ) (hold_times : List ℕ) : Type 0 where
  pub count : length hold_times ≡ n
  pub each : (v : ℕ) → v < n → get_or hold_times v 0 ≤ most_hold

pub record TableFits (t : Table) : Type 0 where
  pub nodes_least : least_nodes ≤ t.nodes
  pub nodes_most : t.nodes ≤ most_nodes
  pub links_most : t.links ≤ most_links
  pub each : (i : ℕ) → i < t.links → LinkFits t i
  pub hold_times : HoldTimesFit t.nodes t.hold_times

-- p is a path of the table, between some two nodes
abbrev pub PathOf : Table → List ℕ → Type 0
PathOf t p = (s : ℕ) × (e : ℕ) × IsPath (whole t) s e p

pub record CircuitFits (t : Table) (c : Circuit) : Type 0 where
  pub number_least : least_number ≤ c.number
  pub number_most : c.number ≤ most_number
  pub units_least : least_units ≤ c.units
  pub units_most : c.units ≤ most_units
  pub links_least : least_path_links ≤ length c.path
  pub links_most : length c.path ≤ most_path_links
  pub path : PathOf t c.path

pub record SoundStation (s : Station) : Type 0 where
  pub table : TableFits s.table
  pub few : length s.held ≤ most_circuits
  pub each : All (CircuitFits s.table) s.held
  -- circuits stand by rising circuit number
  pub rising : Rising (numbers s.held)
  -- on every link the units sum to at most the capacity
  pub within : (i : ℕ) → i < s.table.links → usage s.held i ≤ capacity_of s.table i

-- of a circuit's words: each path word that its path does not use is 0
abbrev pub UnusedClear : List ℕ → Type 0
UnusedClear c = (i : ℕ) → path_start + get_or c 2 0 ≤ i → i < circuit_words → get_or c i 0 ≡ 0

-- what the station says, and of what it does not show: the unused path words of the held circuits
pub record WellFormed (w : List ℕ) : Type 0 where
  pub long : area_words ≤ length w
  pub sound : SoundStation (station w)
  pub clear : (j : ℕ) → j < held_in w → UnusedClear (words_in w j)

-- ---- the test
-- The tests of links, of hold times and of circuits ask for no whole table: for n nodes, and m links with these words.
unfoldable pub link_fits : ℕ → List ℕ → ℕ → Bool
link_fits n words i =
    ltb (field words i 0) n && (ltb (field words i 1) n && (not (eqb (field words i 0) (field words i 1))
    && (leb (field words i 2) most_delay && (leb (field words i 3) most_cost && leb (field words i 4) most_capacity))))

unfoldable pub links_fit : ℕ → ℕ → List ℕ → Bool
unfolding link_fits every
links_fit n m words = every (link_fits n words) m

-- one hold time for each of n nodes
unfoldable pub hold_times_fit : ℕ → List ℕ → Bool
unfolding every
hold_times_fit n hold_times = eqb (length hold_times) n && every (λ v. leb (get_or hold_times v 0) most_hold) n

unfoldable pub table_fits : Table → Bool
unfolding links_fit hold_times_fit
table_fits t =
    in_range least_nodes most_nodes t.nodes && (leb t.links most_links && (links_fit t.nodes t.links t.words && hold_times_fit t.nodes t.hold_times))

-- Link i goes on from node v, and to no node of the set.
unfoldable pub goes_on : ℕ → List ℕ → ℕ → ℕ → ℕ → Bool
unfolding member
goes_on m words v set i = ltb i m && (eqb (field words i 0) v && not (member set (field words i 1)))

-- the links of p go on from node v, each to a node that is not yet in the set
unfoldable pub onward : ℕ → List ℕ → ℕ → ℕ → List ℕ → Bool
unfolding goes_on inserted
onward m words v set [] = true
onward m words v set (i ∷ p) = goes_on m words v set i && onward m words (field words i 1) (inserted set (field words i 1)) p

unfoldable pub path_fits : ℕ → List ℕ → List ℕ → Bool
unfolding onward
path_fits m words [] = false
path_fits m words (i ∷ p) = onward m words (field words i 0) (inserted 0 (field words i 0)) (i ∷ p)

-- a circuit's number, its units and how many links it has are in their ranges
unfoldable pub numbers_fit : Circuit → Bool
numbers_fit c =
    in_range least_number most_number c.number && (in_range least_units most_units c.units && in_range least_path_links most_path_links (length c.path))

-- of a circuit's words: each path word is one of its path, or 0
unfoldable pub unused_clear : List ℕ → Bool
unfolding every
unused_clear c = every (λ k. ltb k (get_or c 2 0) || eqb (get_or c (path_start + k) 0) 0) most_path_links

-- the number at place j is above the one before it
abbrev pub rises : List ℕ → ℕ → Bool
rises w zero = true
rises w (suc j) = ltb (number_at w j) (number_at w (suc j))

-- the words at place j fit, with no regard to the table
unfoldable pub words_fit : List ℕ → ℕ → Bool
unfolding circuit_of numbers_fit unused_clear
words_fit w j = numbers_fit (circuit_at w j) && (unused_clear (words_in w j) && rises w j)

-- the circuit at place j of an area fits
unfoldable pub place_fits : ℕ → List ℕ → List ℕ → ℕ → Bool
unfolding words_fit path_fits
place_fits m words w j = words_fit w j && path_fits m words (circuit_at w j).path

-- every one of h places does
unfoldable pub places_fit : ℕ → List ℕ → List ℕ → ℕ → Bool
unfolding place_fits every
places_fit m words w h = every (place_fits m words w) h

unfoldable pub units_fit : ℕ → List ℕ → List Circuit → Bool
unfolding every
units_fit m words cs = every (λ i. leb (usage cs i) (field words i 4)) m

-- the places of the held circuits, and their units on every link
unfoldable pub circuits_fit : ℕ → List ℕ → List ℕ → ℕ → Bool
unfolding places_fit units_fit
circuits_fit m words w h = places_fit m words w h && units_fit m words (circuits w h)

unfoldable pub well_formed : List ℕ → Bool
unfolding table_in table_fits circuits_fit
well_formed w =
    leb area_words (length w) && (table_fits (table_in w) && (leb (held_in w) most_circuits
    && circuits_fit (links_in w) (table_in w).words w (held_in w)))
