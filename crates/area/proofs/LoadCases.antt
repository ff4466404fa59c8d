-- What Load answers and leaves in the area, one law for each of the code's returns: the first check that fails refuses and
-- the area stays; where all pass, the stores come to the loaded area.
-- Assumes nothing.
use mathlib.Core.Path.{◌≡◌, refl, ap}
use mathlib.Core.Bool.{true, false}
use mathlib.Core.List.{List, [], ◌∷◌}
use mathlib.Core.Logic.{◌⊎◌, inl, inr}
use Prim.Native.Nat.{ℕ, ◌+◌, ◌%◌, ◌≤◌, ◌<◌}
use native.Mathlib.Omega.{arith}
use lib.ListN.{length, set}
use lib.Seq.{sets, sets-eq}
use borrow.Author.Tests.{le-leb, lt-leb, eq-eqb, ne_eqb}
use Rattle.network.specs.Limits.{least_nodes, link_words, most_nodes}
use Rattle.network.specs.Ranges.{in_range}
use Rattle.area.specs.Layout.{area_words, first_hold, table_words}
use Rattle.area.specs.Refusals.{refuses, grants}
use Rattle.area.specs.Formed.{links_fit, hold_times_fit}
use Rattle.network.proofs.Ranges.{range_says}
use Rattle.area.proofs.Formed.{hold_times_says}
use Rattle.area.specs.Load.{LoadInput, link_count, load_answer, loaded, area_loaded}

-- n, m and 0 over the first three words, the links behind them, and the hold times at their place
pub stored_loaded : (w : List ℕ) (input : LoadInput) → 3 + length input.links ≤ length w
    → sets (set (set (set (sets w 3 input.links) 0 input.nodes) 1 (link_count input)) 2 0) first_hold input.hold_times ≡ loaded w input
unfolding loaded
stored_loaded [] input fits = absurd (omega arith)
stored_loaded (a ∷ []) input fits = absurd (omega arith)
stored_loaded (a ∷ b ∷ []) input fits = absurd (omega arith)
stored_loaded (a ∷ b ∷ d ∷ w) input fits =
    ap (λ (l : List ℕ). sets (set (set (set l 0 input.nodes) 1 (link_count input)) 2 0) first_hold input.hold_times)
    (sets-eq input.links (a ∷ b ∷ d ∷ w) 3 fits)

-- hold times that fit have room in an area
pub holds_room : (w : List ℕ) (n : ℕ) (hold_times : List ℕ) → area_words ≤ length w → in_range least_nodes most_nodes n ≡ true
    → hold_times_fit n hold_times ≡ true
    → first_hold + length hold_times ≤ length w
holds_room w n hold_times long nodes fit =
    omega (arith, long, (range_says least_nodes most_nodes n nodes).1, (hold_times_says n hold_times fit).count)

module _ (w : List ℕ) (input : LoadInput) where
  abbrev links : List ℕ
  links = input.links

  -- the answer is this refusal, and the area stays
  abbrev pub RefusedBy : ℕ → Type 0
  RefusedBy k = (refuses k ≡ load_answer w input) × (w ≡ area_loaded w input)

  -- 1: the area is too short
  pub area_short : length w < area_words → RefusedBy 1
  unfolding load_answer area_loaded
  area_short h = rw (lt-leb area_words (length w) h) (refl, refl)

  module _ (long : area_words ≤ length w) where
    -- 2: n is out of range
    pub nodes_out : in_range least_nodes most_nodes input.nodes ≡ false → RefusedBy 2
    unfolding load_answer area_loaded
    nodes_out h = rw (le-leb area_words (length w) long, h) (refl, refl)

    module _ (nodes : in_range least_nodes most_nodes input.nodes ≡ true) where
      -- 3: the link words are not five a link
      pub words_left_over : (length links % link_words ≡ 0 → ⊥) → RefusedBy 3
      unfolding load_answer area_loaded
      words_left_over h = rw (le-leb area_words (length w) long, nodes, ne_eqb (length links % link_words) 0 h) (refl, refl)

      -- 3: more links than a table has
      pub words_many : length links % link_words ≡ 0 → table_words < length links → RefusedBy 3
      unfolding load_answer area_loaded
      words_many whole h =
          rw (le-leb area_words (length w) long, nodes, eq-eqb (length links % link_words) 0 whole, lt-leb (length links) table_words h) (refl, refl)

      -- 3: either of these
      pub words_out : (length links % link_words ≡ 0 → ⊥) ⊎ ((length links % link_words ≡ 0) × table_words < length links) → RefusedBy 3
      words_out (inl h) = words_left_over h
      words_out (inr h) = words_many h.0 h.1

      module _ (whole : length links % link_words ≡ 0) (few : length links ≤ table_words) where
        -- 4: a link does not fit
        pub link_out : links_fit input.nodes (link_count input) links ≡ false → RefusedBy 4
        unfolding load_answer area_loaded
        link_out h = rw (le-leb area_words (length w) long, nodes, eq-eqb (length links % link_words) 0 whole, le-leb (length links) table_words few, h) (refl, refl)

        module _ (fit : links_fit input.nodes (link_count input) links ≡ true) where
          -- 22: the hold times do not fit
          pub hold_out : hold_times_fit input.nodes input.hold_times ≡ false → RefusedBy 22
          unfolding load_answer area_loaded
          hold_out h =
              rw (le-leb area_words (length w) long, nodes, eq-eqb (length links % link_words) 0 whole, le-leb (length links) table_words few, fit, h) (refl, refl)

          -- every check passes
          pub all_pass : hold_times_fit input.nodes input.hold_times ≡ true
              → (grants tt ≡ load_answer w input) × (loaded w input ≡ area_loaded w input)
          unfolding load_answer area_loaded
          all_pass h =
              rw (le-leb area_words (length w) long, nodes, eq-eqb (length links % link_words) 0 whole, le-leb (length links) table_words few, fit, h) (refl, refl)
