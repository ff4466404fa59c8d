-- What the numbers of the layout say of each other, so that one that is changed without the others breaks a law here: the
-- table ends before the circuits begin, a circuit holds any path, the hold times stand right behind the last place of a
-- circuit, and the least area ends with them.
-- Assumes nothing.
use Prim.Native.Nat.{◌+◌, ◌≤◌}
use mathlib.Core.Path.{◌≡◌, refl}
use native.Mathlib.Omega.{arith}
use Rattle.network.specs.Limits.{most_nodes, most_path_links}
use Rattle.area.specs.Layout.{area_words, first_link, table_words, first_circuit, circuit_words, most_circuits, first_hold}
use Rattle.area.specs.Station.{place}

pub table_ends : first_link + table_words ≤ first_circuit
table_ends = omega arith

-- number, units, link count and path
pub circuit_holds : 3 + most_path_links ≤ circuit_words
circuit_holds = omega arith

pub holds_begin : first_hold ≡ place most_circuits
holds_begin = refl

pub holds_end : first_hold + most_nodes ≡ area_words
holds_end = refl
