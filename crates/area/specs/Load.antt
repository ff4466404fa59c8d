-- Load: what it answers, and the area after.
-- Assumes nothing.
use Rattle.std.specs.Prelude.{ℕ, ◌+◌, ◌/◌, ◌%◌, ◌&&◌, List, [], ◌∷◌, ◌++◌, leb, eqb, length, drop}
use Rattle.network.specs.Limits.{least_nodes, link_words, most_nodes}
use Rattle.network.specs.Ranges.{in_range}
use Rattle.std.proofs.lemmas.List.Edits.{sets}
use Rattle.area.specs.Layout.{area_words, first_hold, first_link, table_words}
use Rattle.area.specs.Station.{Table, Station}
use Rattle.area.specs.Formed.{links_fit, hold_times_fit}
use Rattle.area.specs.Refusals.{Reply, refuses, grants}
use Rattle.area.specs.Checks.{Check, ◌unless◌, checked}

-- what is loaded: n, the link words and the hold times
pub record LoadInput : Type 0 where
  pub nodes : ℕ
  pub links : List ℕ
  pub hold_times : List ℕ

abbrev pub input_of : ℕ → List ℕ → List ℕ → LoadInput
input_of n links hold_times = record { nodes = n; links = links; hold_times = hold_times }

abbrev pub link_count : LoadInput → ℕ
link_count input = length input.links / link_words

-- the table that it describes
abbrev pub table_of : LoadInput → Table
table_of input = record { nodes = input.nodes; links = link_count input; words = input.links; hold_times = input.hold_times }

-- the station of a freshly loaded area
abbrev pub fresh : LoadInput → Station
fresh input = record { table = table_of input; held = [] }

abbrev pub load_checks : List ℕ → LoadInput → List Check
load_checks w input =
    (1 unless leb area_words (length w))
    ∷ (2 unless in_range least_nodes most_nodes input.nodes)
    ∷ (3 unless (eqb (length input.links % link_words) 0 && leb (length input.links) table_words))
    ∷ (4 unless links_fit input.nodes (link_count input) input.links)
    ∷ (22 unless hold_times_fit input.nodes input.hold_times)
    ∷ []

-- document 01's number for each refusal; an accepted load grants nothing but that it was accepted
unfoldable pub load_answer : List ℕ → LoadInput → Reply (Unit {0})
unfolding links_fit hold_times_fit
load_answer w input = checked refuses (load_checks w input) (grants tt)

-- n, m, 0 and the links, and the hold times at their place; all other words keep their contents
unfoldable pub loaded : List ℕ → LoadInput → List ℕ
loaded w input = sets (input.nodes ∷ link_count input ∷ 0 ∷ input.links ++ drop (first_link + length input.links) w) first_hold input.hold_times

-- a refusal changes no word
unfoldable pub area_loaded : List ℕ → LoadInput → List ℕ
unfolding loaded links_fit hold_times_fit
area_loaded w input = checked (λ _. w) (load_checks w input) (loaded w input)
