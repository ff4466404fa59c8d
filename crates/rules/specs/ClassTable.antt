-- A class table: lent words, four a row, 1 to 64 rows, each units, D, C and coefficient in a request's ranges; as a statement,
-- and as the test that the code runs. proofs/ClassTable.antt shows that the two are equal.
-- Assumes nothing.
use Rattle.std.specs.Prelude.{ℕ, ◌+◌, ◌*◌, ◌/◌, ◌%◌, ◌≤◌, ◌<◌, ◌≡◌, Bool, ◌&&◌, List, ltb, leb, eqb, length, get_or}
use Rattle.network.specs.Loops.{every}
use Rattle.network.specs.Ranges.{TermsFit, terms_fit}
use Rattle.network.specs.Reduce.{asks}
use Rattle.network.specs.declared.Request.{Request}
use Rattle.network.specs.declared.Terms.{Terms}

-- ---- its lengths, which `classes/src/table.rt` has under the same names; the contract of `classes::check` equates the two,
-- since it holds for every count of words
-- the words of a row, the most rows, and the words of a full table
abbrev pub row_words : ℕ
row_words = 4

abbrev pub most_rows : ℕ
most_rows = 64

abbrev pub class_words : ℕ
class_words = row_words * most_rows

-- ---- what its words say
-- how many rows they are, and row k, which is what class k asks for
abbrev pub rows_in : List ℕ → ℕ
rows_in words = length words / row_words

abbrev pub row_at : List ℕ → ℕ → Terms
row_at words k =
    asks (get_or words (row_words * k) 0) (get_or words (row_words * k + 1) 0) (get_or words (row_words * k + 2) 0) (get_or words (row_words * k + 3) 0)

-- the request of a row from one node to another
abbrev pub request_between : ℕ → ℕ → Terms → Request
request_between source target s = record { source = source; target = target; terms = s }

-- ---- the statement
-- the word count is not zero, not over 256 and a multiple of four
pub record WholeRows (words : List ℕ) : Type 0 where
  pub some : 0 < length words
  pub few : length words ≤ class_words
  pub whole : length words % row_words ≡ 0

-- a row's numbers are in a request's ranges, and so are those of every row
abbrev pub RowFits : Terms → Type 0
RowFits s = TermsFit s

abbrev pub RowsFit : List ℕ → Type 0
RowsFit words = (k : ℕ) → k < rows_in words → RowFits (row_at words k)

pub record ClassTable (words : List ℕ) : Type 0 where
  pub counted : WholeRows words
  pub each : RowsFit words

-- ---- the test
abbrev pub whole_rows : List ℕ → Bool
whole_rows words = ltb 0 (length words) && (leb (length words) class_words && eqb (length words % row_words) 0)

abbrev pub row_fits : Terms → Bool
row_fits s = terms_fit s

unfoldable pub rows_fit : List ℕ → Bool
unfolding terms_fit every
rows_fit words = every (λ k. row_fits (row_at words k)) (rows_in words)
