-- Listing and free units: what they answer, the buffer after, and what a listing means.
-- Assumes nothing.
use Rattle.std.specs.Prelude.{ℕ, ◌<◌, ◌≡◌, List, [], ◌∷◌, ◌++◌, ltb, leb, length, drop}
use Rattle.area.specs.Station.{station, links_in, held_in}
use Rattle.area.specs.Books.{free, numbers}
use Rattle.area.specs.Held.{ListsHeld}
use Rattle.area.specs.Formed.{WellFormed, well_formed}
use Rattle.area.specs.Refusals.{Rule, ◌when◌, Reply, refuses, grants, Answered}
use Rattle.area.specs.Checks.{Check, ◌unless◌, checked}

-- ---- the listing
abbrev pub list_checks : List ℕ → ℕ → List Check
list_checks w buffer = (5 unless well_formed w) ∷ (14 unless leb (held_in w) buffer) ∷ []

-- h, or the refusal's number
unfoldable pub list_answer : List ℕ → ℕ → Reply ℕ
unfolding well_formed
list_answer w buffer = checked refuses (list_checks w buffer) (grants (held_in w))

-- the h numbers in the first words, in the order of the circuits, which is rising; the words past them keep theirs
unfoldable pub listed : List ℕ → List ℕ → List ℕ
unfolding well_formed station
listed w l = checked (λ _. l) (list_checks w (length l)) (numbers (station w).held ++ drop (held_in w) l)

-- ---- what a listing means, with no algorithm
-- the answer and the buffer after, for a reply that grants these numbers: how many they are, and the numbers in the first
-- words, where the words past them keep theirs
abbrev pub count_of : {A : Type 0} → Reply (List A) → Reply ℕ
count_of (refuses k) = refuses k
count_of (grants l) = grants (length l)

abbrev pub buffer_after : Reply (List ℕ) → List ℕ → List ℕ
buffer_after (refuses k) l = l
buffer_after (grants ns) l = ns ++ drop (length ns) l

abbrev pub list_rules : List ℕ → ℕ → List Rule
list_rules w buffer = (5 when (WellFormed w → ⊥)) ∷ (14 when buffer < length (station w).held) ∷ []

-- `said` is what a listing into the buffer l answers, and l' what it leaves there: there is a reply that the rules allow, the
-- held circuits' numbers, rising, and these are its answer and its buffer
pub record ListMeans (w l : List ℕ) (said : Reply ℕ) (l' : List ℕ) : Type 0 where
  pub reply : Reply (List ℕ)
  pub allowed : Answered (ListsHeld (station w).held) (list_rules w (length l)) reply
  pub answer : said ≡ count_of reply
  pub buffer : l' ≡ buffer_after reply l

-- ---- free units
abbrev pub free_checks : List ℕ → ℕ → List Check
free_checks w i = (5 unless well_formed w) ∷ (15 unless ltb i (links_in w)) ∷ []

-- the link's free units, or the refusal's number
unfoldable pub free_answer : List ℕ → ℕ → Reply ℕ
unfolding well_formed station
free_answer w i = checked refuses (free_checks w i) (grants (free (station w) i))
