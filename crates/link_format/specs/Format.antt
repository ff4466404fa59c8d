-- What a link file is: the bytes that stand one after another in it. The reader is proved to take exactly these files,
-- where the table has room.
-- Assumes nothing.
use Rattle.std.specs.Prelude.{ℕ, ◌*◌, ◌/◌, ◌%◌, ◌^◌, ◌≤◌, ◌<◌, ◌≡◌, List, [], ◌∷◌, ◌++◌, length}
use Rattle.network.specs.Limits.{link_words, most_links}
use Rattle.network.specs.Lists.{All}

-- a word as its four bytes, the low byte first
abbrev pub bytes_of : ℕ → List ℕ
bytes_of w = w % 256 ∷ w / 256 % 256 ∷ w / 65536 % 256 ∷ w / 16777216 % 256 ∷ []

-- words one after another
unfoldable pub bytes_of_all : List ℕ → List ℕ
bytes_of_all [] = []
bytes_of_all (w ∷ ws) = bytes_of w ++ bytes_of_all ws

-- RTLK
abbrev pub letters : List ℕ
letters = 82 ∷ 84 ∷ 76 ∷ 75 ∷ []

-- the byte offset of the first record, m, n and the letters
abbrev pub trailer : ℕ → ℕ → ℕ → List ℕ
trailer offset m n = bytes_of offset ++ bytes_of m ++ bytes_of n ++ letters

-- every number of a list is below a bound
abbrev pub AllBelow : ℕ → List ℕ → Type 0
AllBelow b xs = All (λ n. n < b) xs

-- free notes, the records of m links, five words each, and the trailer
pub record LinkFile (n m : ℕ) (words file : List ℕ) : Type 0 where
  pub notes : List ℕ
  pub laid : file ≡ notes ++ bytes_of_all words ++ trailer (length notes) m n
  pub few : m ≤ most_links
  pub five : length words ≡ link_words * m
  -- a word is a 32-bit unsigned number
  pub words_fit : AllBelow (2 ^ 32) words
  pub nodes_fit : n < 2 ^ 32
  pub offset_fits : length notes < 2 ^ 32
