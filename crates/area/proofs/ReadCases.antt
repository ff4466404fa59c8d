-- Listing and free units, one answer for each of the code's returns; and the lengths and counts of a well-formed area,
-- which make its reads safe.
-- Assumes nothing.
use Prim.Native.Nat.{ℕ, ◌≤◌, ◌<◌}
use mathlib.Core.Path.{◌≡◌, refl, sym, ap, ◌∙◌}
use mathlib.Core.Bool.{true, false, ◌&&◌}
use lib.Dec.{ltb, eqb}
use mathlib.Core.List.{List, [], ◌++◌}
use native.Mathlib.Omega.{arith}
use lib.ListN.{length, get_or, drop, length-map}
use borrow.Author.Tests.{le-leb, lt-leb, ltb-true, le-ltb, lt-ltb}
use Rattle.area.specs.Layout.{area_words, most_circuits}
use Rattle.area.specs.Station.{nodes_in, links_in, held_in, station, table_in, hold_of}
use Rattle.area.specs.Books.{numbers, holds, free}
use Rattle.area.specs.Held.{number_at, place_of, ListsHeld}
use Rattle.area.specs.Formed.{LinkFits, WellFormed, well_formed}
use Rattle.area.specs.Refusals.{Reply, refuses, grants, Answered}
use Rattle.area.specs.Checks.{checked}
use Rattle.area.specs.Reads.{list_checks, list_answer, listed, count_of, buffer_after, list_rules, ListMeans, free_answer}
use Rattle.area.specs.FreeIn.{free_in}
use Rattle.network.specs.Limits.{most_hold, most_links, most_nodes}
use Rattle.network.specs.Lists.{from}
use Rattle.network.proofs.Tests.{fst_of, unfailing}
use Rattle.area.proofs.Checks.{checked_made, Tested, tests_not, tests_short, checked_answers}
use Rattle.area.proofs.Found.{held_length, numbers_held, listing_means}
use Rattle.area.proofs.Places.{held_there}
use Rattle.area.proofs.Formed.{formed_says, formed_test}

-- the counts that the words 1 and 2 hold
pub links_few : (w : List ℕ) → WellFormed w → get_or w 1 0 ≤ most_links
unfolding station table_in
links_few w h = h.sound.table.links_most

pub held_few : (w : List ℕ) → WellFormed w → get_or w 2 0 ≤ most_circuits
unfolding station
held_few w h = omega (arith, held_length w (get_or w 2 0), h.sound.few)

-- the same where the test has passed
module _ (w : List ℕ) (formed : well_formed w ≡ true) where
  pub formed_long : area_words ≤ length w
  formed_long = (formed_says w formed).long

  -- of the nodes, each link's ends, and each node's hold time
  pub formed_nodes : nodes_in w ≤ most_nodes
  unfolding station table_in
  formed_nodes = (formed_says w formed).sound.table.nodes_most

  pub formed_ends : (i : ℕ) → i < links_in w → LinkFits (table_in w) i
  unfolding station table_in
  formed_ends i low = (formed_says w formed).sound.table.each i low

  pub formed_holds : (v : ℕ) → v < nodes_in w → hold_of (table_in w) v ≤ most_hold
  unfolding station table_in
  formed_holds v low = (formed_says w formed).sound.table.hold_times.each v low

  pub formed_links : get_or w 1 0 ≤ most_links
  formed_links = links_few w (formed_says w formed)

  -- its free units are those of its station
  pub formed_free : (i : ℕ) → free_in w i ≡ free (station w) i
  unfolding free_in
  formed_free i = rw formed refl

  pub formed_held : get_or w 2 0 ≤ most_circuits
  formed_held = held_few w (formed_says w formed)

-- ---- a number at its place j: it is held if a circuit stands there that has it
module _ (w : List ℕ) (formed : well_formed w ≡ true) (k j : ℕ) (there : j ≡ place_of w k) where
  held_as : holds (station w).held k ≡ (ltb j (held_in w) && eqb (number_at w j) k)
  unfolding station
  held_as =
      held_there w k (formed_says w formed).sound.rising ∙ ap (λ (i : ℕ). ltb i (held_in w) && eqb (number_at w i) k) (sym there)

  pub held_here : j < held_in w → eqb (number_at w j) k ≡ holds (station w).held k
  held_here low = sym (held_as ∙ rw (lt-ltb j (held_in w) low) refl)

  pub held_nowhere : held_in w ≤ j → false ≡ holds (station w).held k
  held_nowhere high = sym (held_as ∙ rw (le-ltb j (held_in w) high) refl)

  pub held_low : holds (station w).held k ≡ true → j < held_in w
  held_low has = ltb-true j (held_in w) (fst_of (ltb j (held_in w)) _ (sym held_as ∙ has))

-- ---- listing, into a buffer l
module _ (w l : List ℕ) where
  abbrev list_reply : Reply (List ℕ)
  list_reply = checked refuses (list_checks w (length l)) (grants (numbers (station w).held))

  checks_tested : Tested (list_checks w (length l)) (list_rules w (length l))
  unfolding station
  checks_tested = (
    tests_not 5 (omega arith) (well_formed w) (formed_says w) (formed_test w),
    (rw (held_length w (held_in w)) (tests_short 14 (omega arith) (held_in w) (length l)), tt),
  )

  -- past its checks it grants the held circuits' numbers
  reply_allowed : Answered (ListsHeld (station w).held) (list_rules w (length l)) list_reply
  unfolding station
  reply_allowed =
      checked_answers (ListsHeld (station w).held) (list_checks w (length l)) (list_rules w (length l)) checks_tested []
      (grants (numbers (station w).held))
      (λ p. (tt, listing_means (station w).held (unfailing (well_formed w) (formed_says w) (formed_test w) p.0).sound.rising))

  -- what the contract says of an answer `said` and a buffer l'
  abbrev pub ListedAs : Reply ℕ → List ℕ → Type 0
  ListedAs said l' = (said ≡ list_answer w (length l)) × ((l' ≡ listed w l) × ListMeans w l said l')

  -- it holds of the call's own
  pub listed_as : (said : Reply ℕ) → said ≡ list_answer w (length l) → (l' : List ℕ) → l' ≡ listed w l → ListedAs said l'
  unfolding list_answer listed station
  listed_as said answers l' holds = (
    answers,
    (
      holds,
      record {
        reply = list_reply;
        allowed = reply_allowed;
        answer =
            answers
            ∙ ap (λ (h : ℕ). checked refuses (list_checks w (length l)) (grants h)) (sym count)
            ∙ checked_made count_of refuses (list_checks w (length l)) (grants (numbers (station w).held));
        buffer =
            holds
            ∙ ap (λ (h : ℕ). checked (λ _. l) (list_checks w (length l)) (numbers (station w).held ++ drop h l)) (sym count)
            ∙ checked_made (λ (a : Reply (List ℕ)). buffer_after a l) refuses (list_checks w (length l)) (grants (numbers (station w).held));
      },
    ),
  )
    where
      count : length (numbers (station w).held) ≡ held_in w
      count = length-map (station w).held (λ c. c.number) ∙ held_length w (held_in w)

  pub list_unfit : false ≡ well_formed w → ListedAs (refuses 5) l
  unfolding list_answer listed
  list_unfit e = listed_as (refuses 5) (rw (← e) refl) l (rw (← e) refl)

  -- h circuits are held
  module _ (formed : true ≡ well_formed w) (h : ℕ) (is : h ≡ held_in w) where
    pub list_short : length l < h → ListedAs (refuses 14) l
    unfolding list_answer listed
    list_short low =
        let short = lt-leb (held_in w) (length l) (omega arith) in
        listed_as (refuses 14) (rw (← formed, short) refl) l (rw (← formed, short) refl)

    pub list_all : h ≤ length l → (l' : List ℕ) → l' ≡ from (number_at w) 0 h ++ drop h l → ListedAs (grants h) l'
    unfolding list_answer listed station
    list_all room l' stored =
        let fits = le-leb (held_in w) (length l) (omega arith) in
        listed_as (grants h) (rw (← formed, fits, is) refl) l' (stored ∙ rw (← formed, fits, is, numbers_held w (held_in w)) refl)

-- ---- free units of link i
module _ (w : List ℕ) (i : ℕ) where
  pub free_unfit : false ≡ well_formed w → refuses 5 ≡ free_answer w i
  unfolding free_answer
  free_unfit e = rw (← e) refl

  module _ (formed : true ≡ well_formed w) where
    pub free_past : links_in w ≤ i → refuses 15 ≡ free_answer w i
    unfolding free_answer
    free_past h = rw (← formed, le-ltb i (links_in w) h) refl

    pub free_value : i < links_in w → grants (free_in w i) ≡ free_answer w i
    unfolding free_answer free_in
    free_value h = rw (← formed, lt-ltb i (links_in w) h) refl
