-- The lines of a run, in ASCII: of each call its row's number, its name, and what it answered.
-- Assumes nothing.
use Rattle.std.specs.Prelude.{ℕ, zero, suc, ◌+◌, ◌*◌, Bool, cond, ◌&&◌, List, [], ◌∷◌, ◌++◌}
use Rattle.text_format.specs.Decimal.{decimal}
use Rattle.ledger.specs.History.{Given, of_request, of_release, of_jobs, given_to, answers, area_at_end}
use Rattle.cases.specs.declared.Asked.TheVariants.{Quote, Admission}
use Rattle.call_list.specs.declared.Row.{Row}
use Rattle.call_list.specs.declared.Row.TheVariants.{Asks, Releases, Opens}
use Rattle.call_list.specs.Calls.{most_answers, row_count, row_at, is_quote, lent, call_at, calls}
use Rattle.answer_lines.specs.Answers.{answer_text, routed_text, released_text, jobs_text}

-- ---- a line
-- a space, and quote, release, admission or jobs
abbrev pub quote_name : List ℕ
quote_name = 32 ∷ 113 ∷ 117 ∷ 111 ∷ 116 ∷ 101 ∷ []

abbrev pub release_name : List ℕ
release_name = 32 ∷ 114 ∷ 101 ∷ 108 ∷ 101 ∷ 97 ∷ 115 ∷ 101 ∷ []

abbrev pub admission_name : List ℕ
admission_name = 32 ∷ 97 ∷ 100 ∷ 109 ∷ 105 ∷ 115 ∷ 115 ∷ 105 ∷ 111 ∷ 110 ∷ []

abbrev pub jobs_name : List ℕ
jobs_name = 32 ∷ 106 ∷ 111 ∷ 98 ∷ 115 ∷ []

abbrev pub call_name : Row → List ℕ
call_name (Asks (Quote r) l) = quote_name
call_name (Asks (Admission c r) l) = admission_name
call_name (Releases c) = release_name
call_name (Opens l) = jobs_name

-- the row's number and the name of its call
unfoldable pub name_text : ℕ → Row → List ℕ
unfolding decimal
name_text k r = decimal k ++ call_name r

-- what a call answered
unfoldable pub given_text : Given → List ℕ
unfolding answer_text routed_text jobs_text
given_text (of_request said words) = routed_text said words
given_text (of_release said) = answer_text (λ _. released_text) said
given_text (of_jobs said words) = jobs_text said words

-- the line of row k with this answer
unfoldable pub line_of : ℕ → Given → List ℕ
unfolding name_text given_text
line_of k g = name_text k (row_at k) ++ given_text g

-- ---- how long they are at most
-- The bytes of an answer: the longest is that of all jobs in one call, whose words have eleven bytes each with the space before them.
abbrev pub answer_bytes : ℕ
answer_bytes = 11 * most_answers + 23

-- of a line: the row's number has ten, and the longest name has ten too
abbrev pub line_bytes : ℕ
line_bytes = 20 + answer_bytes

abbrev pub text_bytes : ℕ
text_bytes = row_count * line_bytes

-- ---- a run
-- the lines of these rows, an answer for each
unfoldable pub lines_of : List ℕ → List Given → List ℕ
unfolding line_of
lines_of [] gs = []
lines_of (k ∷ ks) [] = []
lines_of (k ∷ ks) (g ∷ gs) = line_of k g ++ lines_of ks gs

-- the same without the lines of quotes
unfoldable pub unquoted_lines : List ℕ → List Given → List ℕ
unfolding line_of
unquoted_lines [] gs = []
unquoted_lines (k ∷ ks) [] = []
unquoted_lines (k ∷ ks) (g ∷ gs) =
    cond (is_quote (row_at k)) (unquoted_lines ks gs) (line_of k g ++ unquoted_lines ks gs)

-- of n rows from row k on, those whose calls are made in a run
unfoldable pub rows_from : Bool → ℕ → ℕ → List ℕ
rows_from struck k zero = []
rows_from struck k (suc n) =
    cond (struck && is_quote (row_at k)) (rows_from struck (suc k) n) (k ∷ rows_from struck (suc k) n)

unfoldable pub rows_made : Bool → List ℕ
unfolding rows_from
rows_made struck = rows_from struck 0 row_count

-- ---- as the run goes
-- the line of row k, which is r, called on the area w
unfoldable pub lent_text : Bool → List ℕ → ℕ → Row → List ℕ
unfolding name_text given_text lent
lent_text struck w k r = name_text k r ++ given_text (given_to w (lent struck k r))

-- nothing where it is a quote and quotes are struck
unfoldable pub row_text : Bool → List ℕ → ℕ → List ℕ
unfolding lent_text
row_text struck w k = cond (struck && is_quote (row_at k)) [] (lent_text struck w k (row_at k))

-- the lines of n rows from row k on, each called on the area that the one before left
unfoldable pub text_from : Bool → List ℕ → ℕ → ℕ → List ℕ
unfolding row_text call_at
text_from struck w k zero = []
text_from struck w k (suc n) = row_text struck w k ++ text_from struck (area_at_end w (call_at struck k)) (suc k) n

-- what a run from the area w prints of its calls
abbrev pub run_text : Bool → List ℕ → List ℕ
run_text struck w = lines_of (rows_made struck) (answers w (calls struck))
