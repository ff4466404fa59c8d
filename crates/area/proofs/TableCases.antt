-- The tests of every link and of every hold time, as the code runs them; and the table of an area, one answer for each of the
-- code's returns: its numbers are tested first, then its links, whose ends are then nodes, and past them the hold times decide.
-- Assumes nothing.
use Prim.Native.Nat.{ℕ, ◌+◌, ◌*◌, ◌≤◌, ◌<◌}
use mathlib.Core.Path.{◌≡◌, refl, sym, ap, ◌∙◌}
use mathlib.Core.Bool.{true, false, ◌&&◌, and-false}
use mathlib.Core.List.{List, []}
use mathlib.Core.Logic.{◌⊎◌, inl, inr}
use native.Mathlib.Omega.{arith}
use lib.Dec.{leb}
use lib.ListN.{length, get_or}
use borrow.Author.Tests.{le-leb, lt-leb, eq-eqb, ne_eqb}
use Rattle.std.specs.List.{list_all, range_with_len}
use Rattle.network.specs.Limits.{least_nodes, link_words, most_hold, most_links, most_nodes}
use Rattle.network.specs.Ranges.{in_range}
use Rattle.network.specs.Words.{field}
use Rattle.network.proofs.Ranges.{range_says}
use Rattle.area.specs.Layout.{first_hold, first_link}
use Rattle.area.specs.Station.{Table, words_at, nodes_in, links_in, table_in, hold_of}
use Rattle.area.specs.Formed.{link_fits, links_fit, hold_times_fit, table_fits}
use Rattle.area.proofs.WordsAt.{words_length, words_at_lem}
use Rattle.area.proofs.Every.{all_every, each_every}
use Rattle.area.proofs.Formed.{links_says}

-- a part has the length that was asked for
pub part_length : (w : List ℕ) (a n : ℕ) {p : List ℕ} → p ≡ words_at w a n → length p ≡ n
part_length w a n e = ap length e ∙ words_length w a n

-- the part where the links stand
pub table_words_at : (w words : List ℕ) → words ≡ words_at w first_link (link_words * links_in w) → words ≡ (table_in w).words
unfolding table_in
table_words_at w words is = is

-- the test of every link
pub links_all : (n m : ℕ) (words : List ℕ) → list_all (link_fits n words) (range_with_len 0 m) ≡ links_fit n m words
unfolding links_fit
links_all n m words = all_every (link_fits n words) m

-- the part where the hold times stand
pub holds_at : (w hold_times : List ℕ) → hold_times ≡ words_at w first_hold (nodes_in w) → hold_times ≡ (table_in w).hold_times
unfolding table_in
holds_at w hold_times is = is

-- the hold time of a node, by its word
pub hold_word : (w : List ℕ) (v : ℕ) → v < nodes_in w → get_or w (first_hold + v) 0 ≡ hold_of (table_in w) v
unfolding table_in
hold_word w v low = sym (words_at_lem w first_hold (nodes_in w) v low)

-- the test of every hold time
pub holds_all : (n : ℕ) (hold_times : List ℕ) → length hold_times ≡ n → list_all (λ h. leb h most_hold) hold_times ≡ hold_times_fit n hold_times
unfolding hold_times_fit
holds_all n hold_times count = each_every (λ h. leb h most_hold) hold_times ∙ rw (eq-eqb (length hold_times) n count, count) refl

pub holds_miscounted : (n : ℕ) (hold_times : List ℕ) → (length hold_times ≡ n → ⊥) → false ≡ hold_times_fit n hold_times
unfolding hold_times_fit
holds_miscounted n hold_times count = rw (ne_eqb (length hold_times) n count) refl

module _ (w : List ℕ) where
  -- a number is out of its range
  pub numbers_out : (in_range least_nodes most_nodes (nodes_in w) ≡ false) ⊎ (most_links < links_in w) → false ≡ table_fits (table_in w)
  unfolding table_fits table_in
  numbers_out (inl e) = rw e refl
  numbers_out (inr high) = rw (lt-leb (links_in w) most_links high, and-false (in_range least_nodes most_nodes (nodes_in w))) refl

  -- the numbers are in theirs, and the links are those of the area
  module _ (nodes : in_range least_nodes most_nodes (nodes_in w) ≡ true) (few : links_in w ≤ most_links)
      (m : ℕ) (words : List ℕ) (is_m : m ≡ links_in w) (is_words : words ≡ (table_in w).words) where
    abbrev t : Table
    t = record { nodes = nodes_in w; links = m; words = words; hold_times = [] }

    -- the links and the hold times are left to test
    both_left : (hold_times : List ℕ) → hold_times ≡ (table_in w).hold_times
        → (links_fit (nodes_in w) m words && hold_times_fit (nodes_in w) hold_times) ≡ table_fits (table_in w)
    unfolding table_fits table_in
    both_left hold_times is = rw (nodes, le-leb (links_in w) most_links few, is_m, is_words, is) refl

    -- a link does not fit
    pub link_out : false ≡ links_fit (nodes_in w) m words → false ≡ table_fits (table_in w)
    link_out e = ap (λ b. b && hold_times_fit (nodes_in w) (table_in w).hold_times) e ∙ both_left (table_in w).hold_times refl

    -- past the links the hold times decide
    pub holds_left : true ≡ links_fit (nodes_in w) m words → (hold_times : List ℕ) → hold_times ≡ (table_in w).hold_times
        → hold_times_fit (nodes_in w) hold_times ≡ table_fits (table_in w)
    holds_left fit hold_times is = ap (λ b. b && hold_times_fit (nodes_in w) hold_times) fit ∙ both_left hold_times is

    -- and where the links fit, both ends of each are nodes
    pub ends_low : true ≡ links_fit (nodes_in w) m words → (i : ℕ) → i < m → (field words i 0 < most_nodes) × (field words i 1 < most_nodes)
    ends_low fit i low =
        let each = links_says t (sym fit) i low in
        let most = (range_says least_nodes most_nodes (nodes_in w) nodes).1 in
        (omega (arith, each.from), omega (arith, each.to))
