-- Each test that the code runs equals its statement, in both directions: the test's parts stand in the statement's
-- order, and each part's test is true just where its fact holds.
-- Assumes nothing.
use mathlib.Core.Path.{◌≡◌, refl, sym, ◌∙◌, subst}
use mathlib.Core.Bool.{Bool, true, false, not, ◌||◌, true≢false}
use mathlib.Core.List.{List}
use mathlib.Core.Logic.{◌↔◌}
use Prim.Native.Nat.{ℕ, zero, suc, ◌+◌, ◌-◌, ◌≤◌, ◌<◌}
use native.Mathlib.Omega.{arith}
use lib.Dec.{ltb, leb, eqb}
use lib.ListN.{length, get_or}
use borrow.Author.Tests.{leb-true, le-leb, ltb-true, lt-ltb, le-ltb, eqb-true, eq-eqb, eqb-false, ne_eqb, not-true}
use Rattle.network.specs.Limits.{least_nodes, least_path_links, least_units, most_capacity, most_cost, most_delay, most_hold, most_links, most_nodes, most_path_links, most_units}
use Rattle.network.specs.Lists.{All}
use Rattle.network.proofs.Listed.{from_each, each_from}
use Rattle.network.proofs.Tests.{both, by_eq, by_lt, fst_of, snd_of}
use Rattle.network.proofs.Ranges.{range_says, range_test}
use Rattle.network.proofs.Loops.{every_at, every_all}
use Rattle.network.specs.Ranges.{in_range}
use Rattle.area.specs.Layout.{area_words, least_number, most_circuits, most_number, path_start}
use Rattle.area.specs.Station.{Table, Circuit, tail_of, head_of, delay_of, cost_of, capacity_of, words_in, circuit_at, circuits, links_in, held_in, table_in, station}
use Rattle.area.specs.Books.{usage, numbers}
use Rattle.area.specs.Order.{Rising}
use Rattle.area.specs.Held.{number_at}
use Rattle.area.specs.Formed.{LinkFits, HoldTimesFit, TableFits, CircuitFits, UnusedClear, WellFormed, link_fits, links_fit, hold_times_fit, table_fits, numbers_fit, unused_clear, path_fits, rises, words_fit, place_fits, places_fit, units_fit, circuits_fit, well_formed}
use Rattle.area.proofs.Found.{held_length, numbers_held}
use Rattle.area.proofs.Places.{rising_from, rising_places}
use Rattle.area.proofs.PathTest.{path_says, path_test}

-- ---- the hold times
module _ (n : ℕ) (hold_times : List ℕ) where
  abbrev low_hold : ℕ → Bool
  low_hold v = leb (get_or hold_times v 0) most_hold

  pub hold_times_says : hold_times_fit n hold_times ≡ true → HoldTimesFit n hold_times
  unfolding hold_times_fit
  hold_times_says e =
      record {
        count = eqb-true (length hold_times) n (fst_of (eqb (length hold_times) n) _ e);
        each = λ v low. leb-true (get_or hold_times v 0) most_hold (every_at low_hold v n low (snd_of (eqb (length hold_times) n) _ e));
      }

  pub hold_times_test : HoldTimesFit n hold_times → hold_times_fit n hold_times ≡ true
  unfolding hold_times_fit
  hold_times_test h =
      both (eqb (length hold_times) n) _ (eq-eqb (length hold_times) n h.count)
      (every_all low_hold n (λ v low. le-leb (get_or hold_times v 0) most_hold (h.each v low)))

-- ---- the path words that a circuit does not use
module _ (c : List ℕ) where
  abbrev pub clear_at : ℕ → Bool
  clear_at k = ltb k (get_or c 2 0) || eqb (get_or c (path_start + k) 0) 0

  -- past the path's words the test asks for 0
  asked : (k : ℕ) → get_or c 2 0 ≤ k → clear_at k ≡ eqb (get_or c (path_start + k) 0) 0
  asked k past = rw (le-ltb k (get_or c 2 0) past) refl

  pub unused_says : unused_clear c ≡ true → UnusedClear c
  unfolding unused_clear
  unused_says e i past low =
      let k = i - path_start in
      let there : path_start + k ≡ i = omega arith in
      let none = eqb-true (get_or c (path_start + k) 0) 0 (sym (asked k (omega arith)) ∙ every_at clear_at k most_path_links (omega arith) e) in
      rw there at none

  pub unused_test : UnusedClear c → unused_clear c ≡ true
  unfolding unused_clear
  unused_test h =
      every_all clear_at most_path_links λ k low.
      by_lt k (get_or c 2 0) (λ used. rw (lt-ltb k (get_or c 2 0) used) refl)
      (λ past. asked k past ∙ eq-eqb (get_or c (path_start + k) 0) 0 (h (path_start + k) (omega arith) (omega arith)))

-- ---- the order of the circuits
-- where each number is above the one before it, it is above all before it
climbs : (w : List ℕ) (h : ℕ) → ((j : ℕ) → j < h → rises w j ≡ true) → (j k : ℕ) → j < k → k < h → number_at w j < number_at w k
climbs w h all j zero low high = absurd (omega arith)
climbs w h all j (suc k) low high =
    let here = ltb-true (number_at w k) (number_at w (suc k)) (all (suc k) high) in
    by_eq j k (λ e. rw e here) (λ e. omega (arith, here, climbs w h all j k (omega arith) (omega arith)))

-- the circuits stand by rising number just where each number is above the one before it
pub rising_says : (w : List ℕ) (h : ℕ) → ((j : ℕ) → j < h → rises w j ≡ true) → Rising (numbers (circuits w h))
rising_says w h all =
    subst Rising (sym (numbers_held w h))
    (rising_from (number_at w) 0 h (λ j k low less high. climbs w h all j k less (omega arith)))

pub rising_test : (w : List ℕ) (h : ℕ) → Rising (numbers (circuits w h)) → (j : ℕ) → j < h → rises w j ≡ true
rising_test w h rising zero low = refl
rising_test w h rising (suc j) low =
    lt-ltb (number_at w j) (number_at w (suc j))
    (rising_places w h rising j (suc j) (omega arith) low)

-- what the test of a place says
pub record PlaceFits (t : Table) (w : List ℕ) (j : ℕ) : Type 0 where
  pub circuit : CircuitFits t (circuit_at w j)
  clear : UnusedClear (words_in w j)
  rise : rises w j ≡ true

-- ---- a link, and the table
module _ (t : Table) where
  pub link_says : (i : ℕ) → link_fits t.nodes t.words i ≡ true → LinkFits t i
  unfolding link_fits
  link_says i e =
      let e1 = snd_of (ltb (tail_of t i) t.nodes) _ e in
      let e2 = snd_of (ltb (head_of t i) t.nodes) _ e1 in
      let e3 = snd_of (not (eqb (tail_of t i) (head_of t i))) _ e2 in
      let e4 = snd_of (leb (delay_of t i) most_delay) _ e3 in
      record {
        from = ltb-true (tail_of t i) t.nodes (fst_of (ltb (tail_of t i) t.nodes) _ e);
        to = ltb-true (head_of t i) t.nodes (fst_of (ltb (head_of t i) t.nodes) _ e1);
        apart = eqb-false (tail_of t i) (head_of t i) (not-true _ (fst_of (not (eqb (tail_of t i) (head_of t i))) _ e2));
        delay = leb-true (delay_of t i) most_delay (fst_of (leb (delay_of t i) most_delay) _ e3);
        cost = leb-true (cost_of t i) most_cost (fst_of (leb (cost_of t i) most_cost) _ e4);
        capacity = leb-true (capacity_of t i) most_capacity (snd_of (leb (cost_of t i) most_cost) _ e4);
      }

  pub link_test : (i : ℕ) → LinkFits t i → link_fits t.nodes t.words i ≡ true
  unfolding link_fits
  link_test i h =
      rw (
        lt-ltb (tail_of t i) t.nodes h.from,
        lt-ltb (head_of t i) t.nodes h.to,
        ne_eqb (tail_of t i) (head_of t i) h.apart,
        le-leb (delay_of t i) most_delay h.delay,
        le-leb (cost_of t i) most_cost h.cost,
        le-leb (capacity_of t i) most_capacity h.capacity,
      )

  pub links_says : links_fit t.nodes t.links t.words ≡ true → (i : ℕ) → i < t.links → LinkFits t i
  unfolding links_fit
  links_says e i low = link_says i (every_at (link_fits t.nodes t.words) i t.links low e)

  pub links_test : ((i : ℕ) → i < t.links → LinkFits t i) → links_fit t.nodes t.links t.words ≡ true
  unfolding links_fit
  links_test h = every_all (link_fits t.nodes t.words) t.links (λ i low. link_test i (h i low))

  pub table_says : table_fits t ≡ true → TableFits t
  unfolding table_fits
  table_says e =
      let e1 = snd_of (in_range least_nodes most_nodes t.nodes) _ e in
      let e2 = snd_of (leb t.links most_links) _ e1 in
      let nodes = range_says least_nodes most_nodes t.nodes (fst_of (in_range least_nodes most_nodes t.nodes) _ e) in
      record {
        nodes_least = nodes.0;
        nodes_most = nodes.1;
        links_most = leb-true t.links most_links (fst_of (leb t.links most_links) _ e1);
        each = links_says (fst_of (links_fit t.nodes t.links t.words) _ e2);
        hold_times = hold_times_says t.nodes t.hold_times (snd_of (links_fit t.nodes t.links t.words) _ e2);
      }

  pub table_test : TableFits t → table_fits t ≡ true
  unfolding table_fits
  table_test h =
      both (in_range least_nodes most_nodes t.nodes) _ (range_test least_nodes most_nodes t.nodes h.nodes_least h.nodes_most)
      (both (leb t.links most_links) _ (le-leb t.links most_links h.links_most)
      (both (links_fit t.nodes t.links t.words) _ (links_test h.each) (hold_times_test t.nodes t.hold_times h.hold_times)))

  -- ---- a circuit: its numbers, and its path
  circuit_says : (c : Circuit) → numbers_fit c ≡ true → path_fits t.links t.words c.path ≡ true → CircuitFits t c
  unfolding numbers_fit
  circuit_says c e path =
      let e1 = snd_of (in_range least_number most_number c.number) _ e in
      let number = range_says least_number most_number c.number (fst_of (in_range least_number most_number c.number) _ e) in
      let units = range_says least_units most_units c.units (fst_of (in_range least_units most_units c.units) _ e1) in
      let links = range_says least_path_links most_path_links (length c.path) (snd_of (in_range least_units most_units c.units) _ e1) in
      record {
        number_least = number.0;
        number_most = number.1;
        units_least = units.0;
        units_most = units.1;
        links_least = links.0;
        links_most = links.1;
        path = path_says t c.path path;
      }

  numbers_test : (c : Circuit) → CircuitFits t c → numbers_fit c ≡ true
  unfolding numbers_fit
  numbers_test c h =
      both (in_range least_number most_number c.number) _ (range_test least_number most_number c.number h.number_least h.number_most)
      (both (in_range least_units most_units c.units) _ (range_test least_units most_units c.units h.units_least h.units_most)
      (range_test least_path_links most_path_links (length c.path) h.links_least h.links_most))

  -- ---- the places of the held circuits
  -- one place, and the number before it
  pub place_says : (w : List ℕ) (j : ℕ) → place_fits t.links t.words w j ≡ true → PlaceFits t w j
  unfolding place_fits words_fit
  place_says w j e =
      let e1 = fst_of (words_fit w j) _ e in
      let e2 = snd_of (numbers_fit (circuit_at w j)) _ e1 in
      record {
        circuit = circuit_says (circuit_at w j) (fst_of (numbers_fit (circuit_at w j)) _ e1) (snd_of (words_fit w j) _ e);
        clear = unused_says (words_in w j) (fst_of (unused_clear (words_in w j)) _ e2);
        rise = snd_of (unused_clear (words_in w j)) _ e2;
      }

  place_test : (w : List ℕ) (j : ℕ) → PlaceFits t w j → place_fits t.links t.words w j ≡ true
  unfolding place_fits words_fit
  place_test w j h =
      both (words_fit w j) _
      (both (numbers_fit (circuit_at w j)) _ (numbers_test (circuit_at w j) h.circuit)
      (both (unused_clear (words_in w j)) _ (unused_test (words_in w j) h.clear) h.rise))
      (path_test t (circuit_at w j).path h.circuit.path)

  -- the circuits of h places fit, stand by rising number, and have zeros in the words that their paths leave
  module _ (w : List ℕ) (h : ℕ) where
    pub places_says : places_fit t.links t.words w h ≡ true
        → All (CircuitFits t) (circuits w h) × Rising (numbers (circuits w h)) × ((j : ℕ) → j < h → UnusedClear (words_in w j))
    unfolding places_fit
    places_says e =
        let each : (j : ℕ) → j < h → PlaceFits t w j =
        λ j low. place_says w j (every_at (place_fits t.links t.words w) j h low e) in (
          from_each (circuit_at w) (CircuitFits t) 0 h (λ j least low. (each j (omega arith)).circuit),
          rising_says w h (λ j low. (each j low).rise),
          λ j low. (each j low).clear,
        )

    pub places_test : All (CircuitFits t) (circuits w h) × Rising (numbers (circuits w h)) × ((j : ℕ) → j < h → UnusedClear (words_in w j))
        → places_fit t.links t.words w h ≡ true
    unfolding places_fit
    places_test (fit, rising, clear) =
        every_all (place_fits t.links t.words w) h λ j low.
        place_test w j
        record {
          circuit = each_from (circuit_at w) (CircuitFits t) 0 h fit j (omega arith) (omega arith);
          clear = clear j low;
          rise = rising_test w h rising j low;
        }

  -- ---- the units on every link
  pub units_says : (cs : List Circuit) → units_fit t.links t.words cs ≡ true → (i : ℕ) → i < t.links → usage cs i ≤ capacity_of t i
  unfolding units_fit
  units_says cs e i low =
      leb-true (usage cs i) (capacity_of t i) (every_at (λ j. leb (usage cs j) (capacity_of t j)) i t.links low e)

  pub units_test : (cs : List Circuit) → ((i : ℕ) → i < t.links → usage cs i ≤ capacity_of t i) → units_fit t.links t.words cs ≡ true
  unfolding units_fit
  units_test cs h =
      every_all (λ j. leb (usage cs j) (capacity_of t j)) t.links (λ i low. le-leb (usage cs i) (capacity_of t i) (h i low))

-- ---- an area
-- as many circuits as places
held_count : (w : List ℕ) → length (station w).held ≡ held_in w
unfolding station
held_count w = held_length w (held_in w)

pub formed_says : (w : List ℕ) → well_formed w ≡ true → WellFormed w
unfolding well_formed circuits_fit station table_in
formed_says w e =
    let e1 = snd_of (leb area_words (length w)) _ e in
    let e2 = snd_of (table_fits (table_in w)) _ e1 in
    let e3 = snd_of (leb (held_in w) most_circuits) _ e2 in
    let few = leb-true (held_in w) most_circuits (fst_of (leb (held_in w) most_circuits) _ e2) in
    let fit = places_fit (links_in w) (table_in w).words w (held_in w) in
    let places = places_says (table_in w) w (held_in w) (fst_of fit _ e3) in
    record {
      long = leb-true area_words (length w) (fst_of (leb area_words (length w)) _ e);
      sound =
          record {
            table = table_says (table_in w) (fst_of (table_fits (table_in w)) _ e1);
            few = omega (arith, few, held_count w);
            each = places.0;
            rising = places.1;
            within = units_says (table_in w) (circuits w (held_in w)) (snd_of fit _ e3);
          };
      clear = places.2;
    }

pub formed_test : (w : List ℕ) → WellFormed w → well_formed w ≡ true
unfolding well_formed circuits_fit station table_in
formed_test w h =
    both (leb area_words (length w)) _ (le-leb area_words (length w) h.long)
    (both (table_fits (table_in w)) _ (table_test (table_in w) h.sound.table)
    (both (leb (held_in w) most_circuits) _ (le-leb (held_in w) most_circuits (omega (arith, h.sound.few, held_count w)))
    (both (places_fit (links_in w) (table_in w).words w (held_in w)) _
    (places_test (table_in w) w (held_in w) (h.sound.each, h.sound.rising, h.clear))
    (units_test (table_in w) (circuits w (held_in w)) h.sound.within))))

-- the test of an area passes just where the area is well formed
pub formed_exactly : (w : List ℕ) → (well_formed w ≡ true) ↔ WellFormed w
formed_exactly w = (formed_says w, formed_test w)

pub unformed : (w : List ℕ) → well_formed w ≡ false → WellFormed w → ⊥
unformed w e h = true≢false (sym (formed_test w h) ∙ e)
