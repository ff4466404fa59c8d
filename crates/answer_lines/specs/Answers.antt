-- What a load, a call and a reading answer, and a path, as the rest of a line in ASCII, up to its newline (byte 10):
-- the contracts of `src/` cite it.
-- Assumes nothing.
use Rattle.std.specs.Prelude.{ℕ, List, [], ◌∷◌, ◌++◌, take, Result, Ok, Err}
use Rattle.network.specs.declared.Grant.{Grant}
use Rattle.network.specs.Reduce.{problem_number}
use Rattle.area.specs.Refusals.{Reply, refuses, grants}
use Rattle.text_format.specs.Fields.{fields}

-- an answer that has its refusal as a number, whichever that is (`lent` puts such answers)
abbrev pub reply : {A : Type 0} → Result A ℕ → Reply A
reply (Err k) = refuses k
reply (Ok a) = grants a

-- a field for each of these numbers, and the newline
unfoldable pub line_text : List ℕ → List ℕ
unfolding fields
line_text numbers = fields numbers ++ 10 ∷ []

-- 0 and the refusal's number
abbrev pub refused_text : ℕ → List ℕ
refused_text k = line_text (0 ∷ k ∷ [])

-- the path's links, which are the first words of the path buffer
abbrev pub path_text : ℕ → List ℕ → List ℕ
path_text links buffer = line_text (take links buffer)

-- problem, delay, cost and the path
unfoldable pub grant_text : Grant → List ℕ → List ℕ
unfolding fields line_text
grant_text g buffer = fields (problem_number g.problem ∷ g.delay ∷ g.cost ∷ []) ++ path_text g.links buffer

-- a release that is not refused: a space and `released`
abbrev pub released_text : List ℕ
released_text = 32 ∷ 114 ∷ 101 ∷ 108 ∷ 101 ∷ 97 ∷ 115 ∷ 101 ∷ 100 ∷ 10 ∷ []

-- a call is refused, or it grants what is written so
unfoldable pub answer_text : {A : Type 0} → (A → List ℕ) → Reply A → List ℕ
unfolding line_text
answer_text written (refuses k) = refused_text k
answer_text written (grants granted) = written granted

-- a quote or an admission, with the words of its path buffer
unfoldable pub routed_text : Reply Grant → List ℕ → List ℕ
unfolding line_text grant_text
routed_text (refuses k) buffer = refused_text k
routed_text (grants g) buffer = grant_text g buffer

-- a count, and the words that it counts
abbrev pub counted_text : ℕ → List ℕ → List ℕ
counted_text n words = line_text (n ∷ words)

-- all jobs in one call, with the words that answer them
unfoldable pub jobs_text : Reply ℕ → List ℕ → List ℕ
unfolding line_text
jobs_text (refuses k) words = refused_text k
jobs_text (grants n) words = counted_text n words

-- a refusal has 23 bytes at most
abbrev pub answer_room : {A : Type 0} → (A → ℕ) → Reply A → ℕ
answer_room room (refuses k) = 23
answer_room room (grants granted) = room granted

-- a load has a line of its own, so no space stands before its 0, or it is `loaded`
unfoldable pub loading_text : Reply (Unit {0}) → List ℕ
unfolding line_text
loading_text (refuses k) = 48 ∷ line_text (k ∷ [])
loading_text (grants _) = 108 ∷ 111 ∷ 97 ∷ 100 ∷ 101 ∷ 100 ∷ 10 ∷ []
