-- What the reader answers, and the table after. Its contract cites these definitions.
-- Assumes nothing.
use Rattle.std.specs.Prelude.{ℕ, ◌+◌, ◌*◌, ◌-◌, Bool, ◌&&◌, List, [], ◌∷◌, ◌++◌, leb, eqb, length, get_or, drop}
use Rattle.std.specs.List.{ends_with}
use Rattle.network.specs.Limits.{link_words, most_links}
use Rattle.network.specs.Lists.{from}
use Rattle.area.specs.Refusals.{Reply, refuses, grants}
use Rattle.area.specs.Checks.{Check, ◌unless◌, checked}
use Rattle.link_format.specs.declared.Size.{Size}
use Rattle.link_format.specs.Format.{letters}

-- the word of four bytes from a place on, the low byte first
unfoldable pub word_at : List ℕ → ℕ → ℕ
word_at b i = get_or b i 0 + 256 * get_or b (i + 1) 0 + 65536 * (get_or b (i + 2) 0 + 256 * get_or b (i + 3) 0)

-- k words one after another, from word i on
abbrev pub words_from : List ℕ → ℕ → ℕ → List ℕ
words_from b i k = from (λ j. word_at b (4 * j)) i k

-- at least as long as a trailer, and the letters RTLK last
unfoldable pub signed : List ℕ → Bool
signed f = leb 16 (length f) && ends_with eqb f letters

-- the trailer's words: the byte offset of the first record, m and n
abbrev pub offset_in : List ℕ → ℕ
offset_in f = word_at f (length f - 16)

abbrev pub links_in : List ℕ → ℕ
links_in f = word_at f (length f - 12)

abbrev pub nodes_in : List ℕ → ℕ
nodes_in f = word_at f (length f - 8)

-- m is in range, and the notes, the records and the trailer are the whole file
unfoldable pub fills : List ℕ → Bool
fills f = leb (links_in f) most_links && eqb (offset_in f + 20 * links_in f + 16) (length f)

-- the words of the records, read from where the trailer says that they begin
unfoldable pub record_words : List ℕ → List ℕ
record_words f = words_from (drop (offset_in f) f) 0 (link_words * links_in f)

abbrev pub read_checks : List ℕ → ℕ → List Check
read_checks f table = (17 unless signed f) ∷ (18 unless fills f) ∷ (19 unless leb (link_words * links_in f) table) ∷ []

-- n and m, or the refusal's number, for a table of so many words
unfoldable pub read_answer : List ℕ → ℕ → Reply Size
read_answer f table = checked refuses (read_checks f table) (grants (record { nodes = nodes_in f; links = links_in f }))

-- the records' words in front, the rest untouched; a refusal changes none
unfoldable pub table_read : List ℕ → List ℕ → List ℕ
table_read f t = checked (λ _. t) (read_checks f (length t)) (record_words f ++ drop (link_words * links_in f) t)
