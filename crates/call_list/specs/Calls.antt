-- The list of calls that the program `history` makes, as a history of the room `ledger`: each row of the table in
-- `history` is a call, with the words that it is lent in the first run or in the second, where the quotes are struck.
-- Assumes nothing.
use Rattle.std.specs.Prelude.{ℕ, zero, suc, ◌+◌, ◌-◌, ◌*◌, Bool, true, false, cond, ◌&&◌, List, [], ◌∷◌, ◌++◌, get_or, take, replicate}
use Rattle.network.specs.Limits.{path_words, work_words}
use Rattle.network.specs.Reduce.{asking}
use Rattle.rules.specs.AdmitJobs.{answer_words}
use Rattle.ledger.specs.Entries.{Call, quoting, admitting, releasing, admitting_jobs}
use Rattle.ledger.specs.History.{Lending}
use Rattle.cases.specs.declared.Asked.{Asked}
use Rattle.cases.specs.declared.Asked.TheVariants.{Quote, Admission}
use Rattle.call_list.specs.declared.Lent.{Lent}
use Rattle.call_list.specs.declared.Lent.TheVariants.{Enough, ShortWork, ShortPath, ShortAnswers}
use Rattle.call_list.specs.declared.Row.{Row}
use Rattle.call_list.specs.declared.Row.TheVariants.{Asks, Releases, Opens}

-- ---- the rows
-- the jobs of the call for all jobs, seven words each: circuit number, s, t, units, D, C, coefficient
unfoldable pub jobs : List ℕ
jobs =
    21 ∷ 0 ∷ 3 ∷ 6 ∷ 8 ∷ 20 ∷ 8
    ∷ 22 ∷ 0 ∷ 3 ∷ 1 ∷ 8 ∷ 20 ∷ 8
    ∷ 21 ∷ 0 ∷ 1 ∷ 1 ∷ 2 ∷ 5 ∷ 1
    ∷ 22 ∷ 0 ∷ 1 ∷ 1 ∷ 2 ∷ 5 ∷ 1
    ∷ []

-- how many words answer them
abbrev pub jobs_answer : ℕ
jobs_answer = 4 * answer_words

-- the rows of the code's table
unfoldable pub rows : List Row
rows =
    Asks (Quote (asking 0 3 1 8 20 8)) Enough
    ∷ Asks (Admission 7 (asking 0 3 4 8 20 8)) Enough
    ∷ Asks (Quote (asking 0 3 6 8 20 8)) Enough
    ∷ Asks (Quote (asking 0 3 7 8 20 8)) Enough
    ∷ Asks (Admission 7 (asking 0 3 1 8 20 8)) Enough
    ∷ Asks (Admission 0 (asking 0 3 1 8 20 8)) Enough
    ∷ Asks (Admission 8 (asking 0 3 7 9 20 8)) Enough
    ∷ Asks (Quote (asking 0 3 7 9 20 8)) Enough
    ∷ Asks (Admission 9 (asking 0 3 6 8 20 8)) Enough
    ∷ Asks (Quote (asking 0 3 1 8 20 8)) Enough
    ∷ Releases 7
    ∷ Asks (Quote (asking 0 3 4 8 20 8)) Enough
    ∷ Releases 7
    ∷ Asks (Admission 7 (asking 0 3 2 8 15 8)) Enough
    ∷ Asks (Quote (asking 0 3 3 8 20 8)) Enough
    ∷ Asks (Admission 10 (asking 0 3 1 8 20 8)) ShortWork
    ∷ Asks (Quote (asking 0 3 1 8 20 8)) ShortPath
    ∷ Asks (Quote (asking 0 0 1 8 20 8)) Enough
    ∷ Asks (Admission 65535 (asking 1 3 2 4 10 8)) Enough
    ∷ Asks (Quote (asking 0 3 1 8 20 8)) Enough
    ∷ Asks (Quote (asking 1 2 1 8 20 8)) Enough
    ∷ Releases 8
    ∷ Asks (Quote (asking 0 3 10 9 1 1)) Enough
    ∷ Asks (Admission 8 (asking 0 3 10 9 1 1)) Enough
    ∷ Asks (Admission 65536 (asking 0 3 1 9 1 1)) Enough
    ∷ Releases 9
    ∷ Opens Enough
    ∷ Asks (Quote (asking 0 1 2 2 5 1)) Enough
    ∷ Opens ShortWork
    ∷ Opens ShortAnswers
    ∷ []

-- how many they are
abbrev pub row_count : ℕ
row_count = 30

-- what stands for a row past the last, and is none of the list's
abbrev pub no_row : Row
no_row = Asks (Quote (asking 0 0 0 0 0 0)) Enough

-- row k, counted from 0
abbrev pub row_at : ℕ → Row
row_at k = get_or rows k no_row

-- ---- a row as a call
abbrev pub is_quote : Row → Bool
is_quote (Asks (Quote r) l) = true
is_quote (Asks (Admission c r) l) = false
is_quote (Releases c) = false
is_quote (Opens l) = false

-- a request's call, with work memory and path buffer, or their lengths
abbrev pub calling : {Words : Type 0} → Asked → Words → Words → Call Words
calling (Quote r) work path = quoting work path r
calling (Admission c r) work path = admitting work path c r

-- ---- what it is lent
-- how many words
abbrev pub work_lent : Lent → ℕ
work_lent Enough = work_words
work_lent ShortWork = 8
work_lent ShortPath = work_words
work_lent ShortAnswers = work_words

abbrev pub path_lent : Lent → ℕ
path_lent Enough = path_words
path_lent ShortWork = path_words
path_lent ShortPath = 30
path_lent ShortAnswers = path_words

-- five words more than the jobs need, or one word fewer
abbrev pub most_answers : ℕ
most_answers = jobs_answer + 5

abbrev pub answers_lent : Lent → ℕ
answers_lent Enough = most_answers
answers_lent ShortWork = most_answers
answers_lent ShortPath = most_answers
answers_lent ShortAnswers = jobs_answer - 1

-- which words, by the run and the row's number
unfoldable pub work_filler : Bool → ℕ → ℕ
work_filler struck k = cond struck (4294967295 - k) k

unfoldable pub buffer_filler : Bool → ℕ
buffer_filler struck = cond struck 98 99

unfoldable pub filled_work : Bool → ℕ → Lent → List ℕ
unfolding work_filler
filled_work struck k l = take (work_lent l) (replicate work_words (work_filler struck k))

unfoldable pub filled_path : Bool → Lent → List ℕ
unfolding buffer_filler
filled_path struck l = take (path_lent l) (replicate path_words (buffer_filler struck))

unfoldable pub filled_answers : Bool → Lent → List ℕ
unfolding buffer_filler
filled_answers struck l = take (answers_lent l) (replicate most_answers (buffer_filler struck))

-- the call of row k, by the row
unfoldable pub lent : Bool → ℕ → Row → Lending
unfolding filled_work filled_path filled_answers jobs
lent struck k (Asks a l) = calling a (filled_work struck k l) (filled_path struck l)
lent struck k (Releases c) = releasing c
lent struck k (Opens l) = admitting_jobs (filled_work struck k l) jobs (filled_answers struck l)

-- ---- the list
-- the call of row k, or none where it is a quote and quotes are struck
unfoldable pub call_at : Bool → ℕ → List Lending
unfolding lent
call_at struck k = cond (struck && is_quote (row_at k)) [] (lent struck k (row_at k) ∷ [])

-- those of n rows from k on
unfoldable pub calls_from : Bool → ℕ → ℕ → List Lending
unfolding call_at
calls_from struck k zero = []
calls_from struck k (suc n) = call_at struck k ++ calls_from struck (suc k) n

unfoldable pub calls : Bool → List Lending
unfolding calls_from
calls struck = calls_from struck 0 row_count
