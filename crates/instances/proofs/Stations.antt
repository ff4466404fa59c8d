-- Load, listing and free units: a call for each refusal, and granted ones.
-- Assumes nothing.
use mathlib.Core.Path.{◌≡◌, refl}
use mathlib.Core.List.{[], ◌∷◌}
use lib.ListN.{replicate}
use Rattle.area.specs.Refusals.{refuses, grants}
use Rattle.area.specs.Station.{table_in, circuit_of}
use Rattle.area.specs.Load.{input_of, load_answer, area_loaded}
use Rattle.area.specs.Reads.{list_answer, listed, free_answer}
use Rattle.cases.specs.Document01.{blank, links_a, four_nodes, unheld}
use Rattle.instances.specs.Areas.{held_a, two_a, before_a}

-- an area that is a word too short, one node and 33, words that are no whole link and words of 257 links, a link to a
-- node that is not there, a hold time too few, one too many and one out of range. Where hold times are refused and so is
-- what comes before them, 3 and 4 come first. Net A is loaded, with the greatest hold times too; a refused load changes nothing
pub record Loads : Type 0 where
  pub one : load_answer (replicate 3490 0) (unheld links_a) ≡ refuses 1
  pub low_two : load_answer blank (input_of 1 links_a (0 ∷ [])) ≡ refuses 2
  pub high_two : load_answer blank (input_of 33 links_a (replicate 33 0)) ≡ refuses 2
  pub part_three : load_answer blank (unheld (0 ∷ [])) ≡ refuses 3
  pub many_three : load_answer blank (unheld (replicate 1285 0)) ≡ refuses 3
  pub four : load_answer blank (input_of 3 links_a (replicate 3 0)) ≡ refuses 4
  pub few_twenty_two : load_answer blank (four_nodes links_a (replicate 3 0)) ≡ refuses 22
  pub many_twenty_two : load_answer blank (four_nodes links_a (replicate 5 0)) ≡ refuses 22
  pub high_twenty_two : load_answer blank (four_nodes links_a (0 ∷ 0 ∷ 0 ∷ 1000001 ∷ [])) ≡ refuses 22
  pub three_sooner : load_answer blank (four_nodes (0 ∷ []) (replicate 3 0)) ≡ refuses 3
  pub four_sooner : load_answer blank (input_of 3 links_a (replicate 4 1000001)) ≡ refuses 4
  pub loaded : load_answer blank (unheld links_a) ≡ grants tt
  pub loaded_held : load_answer blank (four_nodes links_a (replicate 4 1000000)) ≡ grants tt
  pub unchanged : area_loaded blank (input_of 3 links_a (replicate 3 0)) ≡ blank
  pub hold_unchanged : area_loaded blank (four_nodes links_a (replicate 3 0)) ≡ blank

-- an area that is not well formed, a buffer that is too short; the numbers of two circuits, and a word that is kept; circuits
-- in another order, and a lower number admitted last
pub record Listings : Type 0 where
  pub five : list_answer (two_a 7 10) 64 ≡ refuses 5
  pub fourteen : list_answer (two_a 8 10) 1 ≡ refuses 14
  pub listed_two : list_answer (two_a 8 10) 2 ≡ grants 2
  pub written : listed (two_a 8 10) (1 ∷ 1 ∷ 1 ∷ []) ≡ 7 ∷ 8 ∷ 1 ∷ []
  pub turned_five : list_answer (before_a 8 10) 64 ≡ refuses 5
  pub lower_first : listed (before_a 2 10) (1 ∷ 1 ∷ 1 ∷ []) ≡ 2 ∷ 7 ∷ 1 ∷ []

-- an area that is not well formed, a link that is not there; link 2 has what circuit 7 leaves, and link 3 has all
pub record FreeUnits : Type 0 where
  pub five : free_answer (two_a 7 10) 0 ≡ refuses 5
  pub fifteen : free_answer held_a 4 ≡ refuses 15
  pub some : free_answer held_a 2 ≡ grants 6
  pub all : free_answer held_a 3 ≡ grants 10

pub loads : Loads
unfolding load_answer area_loaded
loads =
    record {
      one = refl;
      low_two = refl;
      high_two = refl;
      part_three = refl;
      many_three = refl;
      four = refl;
      few_twenty_two = refl;
      many_twenty_two = refl;
      high_twenty_two = refl;
      three_sooner = refl;
      four_sooner = refl;
      loaded = refl;
      loaded_held = refl;
      unchanged = refl;
      hold_unchanged = refl;
    }

pub listings : Listings
unfolding list_answer listed two_a before_a table_in circuit_of
listings = record { five = refl; fourteen = refl; listed_two = refl; written = refl; turned_five = refl; lower_first = refl }

pub free_units : FreeUnits
unfolding free_answer held_a two_a table_in circuit_of
free_units = record { five = refl; fifteen = refl; some = refl; all = refl }
