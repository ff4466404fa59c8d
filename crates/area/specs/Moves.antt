-- The area with a circuit more, and with one less; and what that does to the list of circuits.
-- Assumes nothing.
use Rattle.std.specs.Prelude.{ℕ, zero, suc, ◌+◌, ◌*◌, ◌-◌, ◌≤◌, ◌<◌, ◌≡◌, cond, List, [], ◌∷◌, ◌++◌, eqb, length, get_or, set, replicate}
use Rattle.std.proofs.lemmas.List.Edits.{sets}
use Rattle.network.specs.Limits.{most_path_links}
use Rattle.area.specs.Layout.{circuit_words, first_circuit, first_link, most_circuits}
use Rattle.area.specs.Station.{Circuit, Station, place, nodes_in, links_in, held_in}
use Rattle.area.specs.Order.{placed}

-- a circuit as the words of the area hold it: its number, its units, how many links, their numbers, and 0 in each path word
-- that is left
abbrev pub words_of : Circuit → List ℕ
words_of c = c.number ∷ c.units ∷ length c.path ∷ c.path ++ replicate (most_path_links - length c.path) 0

-- n words from place a on each overwrite the word a circuit after it, the last one first
unfoldable pub opened : List ℕ → ℕ → ℕ → List ℕ
opened w a zero = w
opened w a (suc n) = opened (set w (a + n + circuit_words) (get_or w (a + n) 0)) a n

-- the circuit stands at place j, those from there on one place further on, and one more is held
unfoldable pub added : List ℕ → ℕ → Circuit → List ℕ
unfolding opened
added w j c = set (sets (opened w (place j) (circuit_words * (held_in w - j))) (place j) (words_of c)) 2 (held_in w + 1)

-- n words from place a on are each overwritten by the word a circuit after it
unfoldable pub closed : List ℕ → ℕ → ℕ → List ℕ
closed w a zero = w
closed w a (suc n) = closed (set w a (get_or w (a + circuit_words) 0)) (suc a) n

-- the circuits behind circuit j move up by one place, and one fewer is held
unfoldable pub removed : List ℕ → ℕ → List ℕ
unfolding closed
removed w j = set (closed w (place j) (circuit_words * (held_in w - 1 - j))) 2 (held_in w - 1)

-- the circuits but those with number k
abbrev pub without : ℕ → List Circuit → List Circuit
without k [] = []
without k (c ∷ cs) = cond (eqb k c.number) (without k cs) (c ∷ without k cs)

-- a station with a circuit more, at its place, and without the circuit with number k
abbrev pub with_circuit : Station → Circuit → Station
with_circuit s c = record { table = s.table; held = placed c s.held }

abbrev pub without_number : Station → ℕ → Station
without_number s k = record { table = s.table; held = without k s.held }

-- document 01's n, m, link words and words past the last place of circuits, which an admission and a release leave alone
pub record Untouched (w w' : List ℕ) : Type 0 where
  pub nodes : nodes_in w' ≡ nodes_in w
  pub links : links_in w' ≡ links_in w
  pub table : (i : ℕ) → first_link ≤ i → i < first_circuit → get_or w' i 0 ≡ get_or w i 0
  pub past : (i : ℕ) → place most_circuits ≤ i → get_or w' i 0 ≡ get_or w i 0
  pub long : length w' ≡ length w
