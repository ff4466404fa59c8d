-- Document 01's example: net A as a link file, and what the program prints for it, in ASCII; and what it prints where a
-- file or a load is refused.
-- Assumes nothing.
use Rattle.std.specs.Prelude.{ℕ, List, [], ◌∷◌, ◌++◌}
use Rattle.link_format.specs.Format.{bytes_of_all, trailer}
use Rattle.cases.specs.Document01.{links_a}

-- ---- the file: four links, no notes
-- with so many nodes
unfoldable pub file_for : ℕ → List ℕ
unfolding bytes_of_all
file_for n = bytes_of_all links_a ++ trailer 0 4 n

unfoldable pub net_a_file : List ℕ
unfolding file_for
net_a_file = file_for 4

-- ---- the six lines
-- 0 1 6 15 0 1 2
abbrev pub class_zero : List ℕ
class_zero = 48 ∷ 32 ∷ 49 ∷ 32 ∷ 54 ∷ 32 ∷ 49 ∷ 53 ∷ 32 ∷ 48 ∷ 32 ∷ 49 ∷ 32 ∷ 50 ∷ 10 ∷ []

-- 1 1 6 15 0 1 2
abbrev pub class_one : List ℕ
class_one = 49 ∷ 32 ∷ 49 ∷ 32 ∷ 54 ∷ 32 ∷ 49 ∷ 53 ∷ 32 ∷ 48 ∷ 32 ∷ 49 ∷ 32 ∷ 50 ∷ 10 ∷ []

-- 2 1 6 15 0 1 2
abbrev pub class_two : List ℕ
class_two = 50 ∷ 32 ∷ 49 ∷ 32 ∷ 54 ∷ 32 ∷ 49 ∷ 53 ∷ 32 ∷ 48 ∷ 32 ∷ 49 ∷ 32 ∷ 50 ∷ 10 ∷ []

-- 3 1 9 1 3
abbrev pub class_three : List ℕ
class_three = 51 ∷ 32 ∷ 49 ∷ 32 ∷ 57 ∷ 32 ∷ 49 ∷ 32 ∷ 51 ∷ 10 ∷ []

-- 4 1 6 15 0 1 2
abbrev pub class_four : List ℕ
class_four = 52 ∷ 32 ∷ 49 ∷ 32 ∷ 54 ∷ 32 ∷ 49 ∷ 53 ∷ 32 ∷ 48 ∷ 32 ∷ 49 ∷ 32 ∷ 50 ∷ 10 ∷ []

-- 5 0 9
abbrev pub class_five : List ℕ
class_five = 53 ∷ 32 ∷ 48 ∷ 32 ∷ 57 ∷ 10 ∷ []

abbrev pub net_a_lines : List ℕ
net_a_lines = class_zero ++ class_one ++ class_two ++ class_three ++ class_four ++ class_five

-- ---- refusals
-- file 17
abbrev pub file_seventeen : List ℕ
file_seventeen = 102 ∷ 105 ∷ 108 ∷ 101 ∷ 32 ∷ 49 ∷ 55 ∷ 10 ∷ []

-- load 2
abbrev pub load_two : List ℕ
load_two = 108 ∷ 111 ∷ 97 ∷ 100 ∷ 32 ∷ 50 ∷ 10 ∷ []
