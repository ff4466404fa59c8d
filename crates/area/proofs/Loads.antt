-- An accepted load: the area holds the table and the hold times that were given and no circuit, it is well formed, and every
-- other word keeps its contents.
-- Assumes nothing.
use mathlib.Core.Path.{◌≡◌, refl, sym, ap, ◌∙◌, subst}
use mathlib.Core.Bool.{true}
use mathlib.Core.List.{List, [], ◌∷◌, ◌++◌}
use mathlib.Core.Logic.{◌⊎◌, inl, inr}
use Prim.Native.Nat.{ℕ, ◌+◌, ◌*◌, ◌-◌, ◌%◌, ◌≤◌, ◌<◌}
use native.Mathlib.Omega.{arith}
use lib.Dec.{eqb}
use lib.ListN.{length, get_or, drop, length-append, length-drop, get_or-append}
use lib.Seq.{length-sets, get_or-append-add, get_or-drop}
use borrow.Author.Tests.{leb-true, eqb-true}
use Rattle.network.specs.Limits.{least_nodes, link_words, most_nodes}
use Rattle.network.specs.Lists.{All}
use Rattle.network.proofs.Tests.{fst_of, snd_of, zero_one}
use Rattle.network.proofs.Ranges.{range_says}
use Rattle.area.specs.Layout.{area_words, first_hold, first_link, table_words}
use Rattle.area.specs.Station.{words_at, held_in, station, table_in}
use Rattle.area.specs.Formed.{HoldTimesFit, SoundStation, WellFormed}
use Rattle.area.specs.Checks.{Check, first_failing}
use Rattle.area.specs.Refusals.{Reply, refuses, grants}
use Rattle.area.specs.Load.{LoadInput, link_count, table_of, fresh, load_checks, load_answer, loaded, area_loaded}
use Rattle.area.proofs.Checks.{each_passes, all_pass}
use Rattle.area.proofs.Formed.{links_says, hold_times_says}
use Rattle.area.proofs.Sets.{sets_before, sets_in, sets_past}
use Rattle.area.proofs.WordsAt.{words_list}

module _ (w : List ℕ) (input : LoadInput) where
  abbrev links : List ℕ
  links = input.links

  -- n, m, 0 and the links over the words as they were
  abbrev linked : List ℕ
  linked = input.nodes ∷ link_count input ∷ 0 ∷ links ++ drop (3 + length links) w

  linked_keeps : (i : ℕ) → 3 + length links ≤ i → get_or linked i 0 ≡ get_or w i 0
  linked_keeps i past =
      let back : i ≡ 3 + (length links + (i - (3 + length links))) = omega arith in
      let on : 3 + length links + (i - (3 + length links)) ≡ i = omega arith in
      ap (λ (k : ℕ). get_or linked k 0) back
      ∙ get_or-append-add (input.nodes ∷ link_count input ∷ 0 ∷ []) (links ++ drop (3 + length links) w) (length links + (i - (3 + length links))) 0
      ∙ get_or-append-add links (drop (3 + length links) w) (i - (3 + length links)) 0
      ∙ get_or-drop (3 + length links) w (i - (3 + length links)) 0
      ∙ ap (λ (k : ℕ). get_or w k 0) on

  linked_long : 3 + length links ≤ length w → length linked ≡ length w
  linked_long fits = simp (length-append, length-drop) (omega arith)

  -- the words past the links keep their contents, before the hold times and past them
  pub loaded_keeps : (i : ℕ) → 3 + length links ≤ i → (i < first_hold) ⊎ (first_hold + length input.hold_times ≤ i)
      → get_or (loaded w input) i 0 ≡ get_or w i 0
  unfolding loaded
  loaded_keeps i past (inl low) = sets_before linked first_hold input.hold_times i low ∙ linked_keeps i past
  loaded_keeps i past (inr high) = sets_past linked first_hold input.hold_times i high ∙ linked_keeps i past

  -- no word more and no word less
  pub loaded_long : 3 + length links ≤ length w → length (loaded w input) ≡ length w
  unfolding loaded
  loaded_long fits = length-sets linked first_hold input.hold_times ∙ linked_long fits

  module _ (ok : first_failing (load_checks w input) ≡ 0) where
    -- what the checks say, one by one
    each : All (λ (c : Check). c.passes ≡ true) (load_checks w input)
    each = each_passes (load_checks w input) refl ok

    long : area_words ≤ length w
    long = leb-true area_words (length w) each.0

    nodes : (least_nodes ≤ input.nodes) × (input.nodes ≤ most_nodes)
    nodes = range_says least_nodes most_nodes input.nodes each.1.0

    fives : link_words * link_count input ≡ length links
    fives = omega (arith, eqb-true (length links % link_words) 0 (fst_of (eqb (length links % link_words) 0) _ each.1.1.0))

    few : length links ≤ table_words
    few = leb-true (length links) table_words (snd_of (eqb (length links % link_words) 0) _ each.1.1.0)

    holds_fit : HoldTimesFit input.nodes input.hold_times
    holds_fit = hold_times_says input.nodes input.hold_times each.1.1.1.1.0

    -- n, m, 0 and the links stand before the hold times
    before : (i : ℕ) → i < 3 + length links → get_or (loaded w input) i 0 ≡ get_or linked i 0
    unfolding loaded
    before i low = sets_before linked first_hold input.hold_times i (omega (arith, few))

    -- the area is read as what was given, with no circuit
    pub loaded_station : station (loaded w input) ≡ fresh input
    unfolding station table_in loaded
    loaded_station =
        rw (before 0 (omega arith), before 1 (omega arith), before 2 (omega arith))
        (λ t. record { table = record { nodes = input.nodes; links = link_count input; words = read t; hold_times = held t }; held = [] })
      where
        read : words_at (loaded w input) first_link (link_words * link_count input) ≡ links
        read =
            ap (words_at (loaded w input) 3) fives
            ∙ words_list (loaded w input) 3 links λ i low.
            before (3 + i) (omega arith)
            ∙ get_or-append-add (input.nodes ∷ link_count input ∷ 0 ∷ []) (links ++ drop (3 + length links) w) i 0
            ∙ get_or-append links (drop (3 + length links) w) 0 i low

        held : words_at (loaded w input) first_hold input.nodes ≡ input.hold_times
        held =
            ap (words_at (loaded w input) first_hold) (sym holds_fit.count)
            ∙ words_list (loaded w input) first_hold input.hold_times λ i low.
            sets_in linked first_hold input.hold_times i (omega (arith, linked_long (omega (arith, few, long)), long, holds_fit.count, nodes.1)) low

    none_held : held_in (loaded w input) ≡ 0
    none_held = before 2 (omega arith)

    -- a table that passed the checks, with no circuit, is sound
    fresh_sound : SoundStation (fresh input)
    fresh_sound =
        record {
          table = record {
            nodes_least = nodes.0;
            nodes_most = nodes.1;
            links_most = omega (arith, few, fives);
            each = links_says (table_of input) each.1.1.1.0;
            hold_times = holds_fit;
          };
          few = omega arith;
          each = tt;
          rising = tt;
          within = λ i low. omega arith;
        }

    -- the area is well formed
    pub loaded_formed : WellFormed (loaded w input)
    loaded_formed =
        record {
          long = omega (arith, loaded_long (omega (arith, few, long)), long);
          sound = subst SoundStation (sym loaded_station) fresh_sound;
          clear = λ j low. absurd (omega (arith, low, none_held));
        }

  -- ---- by Load's answer, and the area that it leaves
  accepted_passes : load_answer w input ≡ grants tt → first_failing (load_checks w input) ≡ 0
  unfolding load_answer
  accepted_passes e = (all_pass refuses (load_checks w input) (grants tt) (grants tt) refusal e).0
    where
      refusal : (number : ℕ) → ◌≡◌ {A = Reply (Unit {0})} (refuses number) (grants tt) → ⊥
      refusal number f = zero_one cc

  accepted_loaded : load_answer w input ≡ grants tt → area_loaded w input ≡ loaded w input
  unfolding area_loaded
  accepted_loaded e = rw (accepted_passes e) refl

  pub accepted_station : load_answer w input ≡ grants tt → station (area_loaded w input) ≡ fresh input
  accepted_station e = ap station (accepted_loaded e) ∙ loaded_station (accepted_passes e)

  pub accepted_formed : load_answer w input ≡ grants tt → WellFormed (area_loaded w input)
  accepted_formed e = subst WellFormed (sym (accepted_loaded e)) (loaded_formed (accepted_passes e))
