-- Areas of the instances: freshly loaded ones, and the same with circuits added, at their places or not.
-- Assumes nothing.
use Rattle.std.specs.Prelude.{ℕ, zero, suc, List, [], ◌∷◌}
use Rattle.area.specs.Station.{Circuit}
use Rattle.area.specs.Held.{place_of}
use Rattle.area.specs.Moves.{added}
use Rattle.area.specs.Load.{LoadInput, input_of, area_loaded}
use Rattle.cases.specs.Document01.{links_a, links_b, blank, unheld, three}
use Rattle.instances.specs.Nets.{straight}

-- net A and net B loaded
unfoldable pub fresh_a : List ℕ
unfolding area_loaded
fresh_a = area_loaded blank (unheld links_a)

unfoldable pub fresh_b : List ℕ
unfolding area_loaded
fresh_b = area_loaded blank (unheld links_b)

abbrev pub circuit : ℕ → ℕ → List ℕ → Circuit
circuit c u p = record { number = c; units = u; path = p }

-- net A with circuit 7: 4 units by the three links
unfoldable pub held_a : List ℕ
unfolding fresh_a added
held_a = added fresh_a 0 (circuit 7 4 three)

-- and with a circuit more, by link 3, behind it or before it
unfoldable pub two_a : ℕ → ℕ → List ℕ
unfolding held_a
two_a c u = added held_a 1 (circuit c u straight)

unfoldable pub before_a : ℕ → ℕ → List ℕ
unfolding held_a
before_a c u = added held_a 0 (circuit c u straight)

-- two nodes and one link of capacity 65,535, with circuits 1 to k of one unit; in the list the last admitted is the first
abbrev pub one_link : List ℕ
one_link = 0 ∷ 1 ∷ 2 ∷ 5 ∷ 65535 ∷ []

abbrev pub two_nodes : LoadInput
two_nodes = input_of 2 one_link (0 ∷ 0 ∷ [])

abbrev pub circuits_to : ℕ → List Circuit
circuits_to zero = []
circuits_to (suc k) = circuit (suc k) 1 (0 ∷ []) ∷ circuits_to k

unfoldable pub filled : ℕ → List ℕ
unfolding area_loaded added place_of
filled zero = area_loaded blank two_nodes
filled (suc k) = added (filled k) (place_of (filled k) (suc k)) (circuit (suc k) 1 (0 ∷ []))
