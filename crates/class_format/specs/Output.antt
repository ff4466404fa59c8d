-- What the class program prints for a link file, as bytes.
-- Assumes nothing.
use Rattle.std.specs.Prelude.{ℕ, cond, List, [], ◌∷◌, ◌++◌, leb, length, take, replicate}
use Rattle.area.specs.Refusals.{Reply, refuses, grants}
use Rattle.area.specs.Layout.{area_words, table_words}
use Rattle.network.specs.Limits.{most_nodes}
use Rattle.area.specs.Load.{LoadInput, input_of, load_answer, area_loaded}
use Rattle.link_format.specs.declared.Size.{Size}
use Rattle.link_format.specs.Reading.{read_answer, record_words}
use Rattle.rules.specs.SampleClasses.{sample}
use Rattle.text_format.specs.Fields.{fields}
use Rattle.class_format.specs.Lines.{lines}

-- in ASCII: file, load, and file long with its newline
abbrev pub file_word : List ℕ
file_word = 102 ∷ 105 ∷ 108 ∷ 101 ∷ []

abbrev pub load_word : List ℕ
load_word = 108 ∷ 111 ∷ 97 ∷ 100 ∷ []

abbrev pub file_long : List ℕ
file_long = file_word ++ 32 ∷ 108 ∷ 111 ∷ 110 ∷ 103 ∷ 10 ∷ []

-- a word and the refusal's number
unfoldable pub refusal : List ℕ → ℕ → List ℕ
unfolding fields
refusal word number = word ++ fields (number ∷ []) ++ 10 ∷ []

-- the words of the area before it is loaded
unfoldable pub blank : List ℕ
blank = replicate area_words 0

-- a refused load prints only that; else a line for each class of the sample table, quoted on the area that was loaded
unfoldable pub loading_output : List ℕ → ℕ → Reply (Unit {0}) → List ℕ
unfolding refusal lines
loading_output area n (refuses number) = refusal load_word number
loading_output area n (grants tt) = lines sample area n

-- the links are loaded with a hold time of 0 for each node, so a line is what the links' own delays give (proofs/Unheld.antt).
-- There are no more of them than nodes may be; a greater n is refused before they are looked at.
abbrev pub unheld : ℕ → List ℕ → LoadInput
unheld n links = input_of n links (take n (replicate most_nodes 0))

unfoldable pub load_output : ℕ → List ℕ → List ℕ
unfolding loading_output area_loaded load_answer blank
load_output n links = loading_output (area_loaded blank (unheld n links)) n (load_answer blank (unheld n links))

-- a refused file prints only that; else its links are loaded
unfoldable pub reading_output : List ℕ → Reply Size → List ℕ
unfolding refusal load_output
reading_output links (refuses number) = refusal file_word number
reading_output links (grants s) = load_output s.nodes links

-- the program's table has the words of a full one
unfoldable pub file_output : List ℕ → List ℕ
unfolding reading_output read_answer record_words
file_output file = reading_output (record_words file) (read_answer file table_words)

-- input over 65,536 bytes prints only that it is long
unfoldable pub output : List ℕ → List ℕ
output file = cond (leb (length file) 65536) (file_output file) file_long
