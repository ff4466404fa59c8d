-- A list of calls on net A in which every refusal but 12 occurs that a list from a loaded area can meet, with grants of
-- both problems, a release and jobs in one call; the answers; and the list with its quotes struck. And lists of two admissions.
-- Assumes nothing.
use Rattle.std.specs.Prelude.{ℕ, List, [], ◌∷◌, ◌++◌, replicate}
use Rattle.network.specs.declared.Request.{Request}
use Rattle.network.specs.declared.answer.Reduction.{Reduction}
use Rattle.network.specs.declared.answer.Reduction.TheVariants.{One, Two}
use Rattle.network.specs.Reduce.{asking}
use Rattle.area.specs.Refusals.{refuses, grants}
use Rattle.ledger.specs.Entries.{quoting, admitting, releasing, admitting_jobs}
use Rattle.ledger.specs.History.{Lending, Given, of_request, of_release, of_jobs}
use Rattle.cases.specs.Document01.{asks, m3, three}
use Rattle.instances.specs.Nets.{m4}

-- work memory and path buffer of the lengths asked for, filled with a number
abbrev pub work : ℕ → List ℕ
work v = replicate 16384 v

abbrev pub path : ℕ → List ℕ
path v = replicate 31 v

abbrev quotes : Request → Lending
quotes r = quoting (work 0) (path 0) r

abbrev admits : ℕ → ℕ → Request → Lending
admits v c r = admitting (work v) (path v) c r

-- two jobs: one of circuit 9, for which no link has the units, and one of circuit 7
abbrev pub over_words : List ℕ
over_words = 9 ∷ 0 ∷ 3 ∷ 11 ∷ 8 ∷ 20 ∷ 8 ∷ []

abbrev pub fits_words : List ℕ
fits_words = 7 ∷ 0 ∷ 3 ∷ 4 ∷ 8 ∷ 20 ∷ 8 ∷ []

abbrev pub two_jobs : List ℕ
two_jobs = over_words ++ fits_words

-- jobs in one call, with an answer buffer of n words
abbrev pub opens : ℕ → List ℕ → ℕ → Lending
opens v jobs n = admitting_jobs (work v) jobs (replicate n v)

abbrev pub calls : List Lending
calls =
    quoting (replicate 8 0) (path 0) m3
    ∷ quoting (work 0) (replicate 8 0) m3
    ∷ quotes (asking 0 0 1 8 20 8)
    ∷ admits 0 7 (asks 4 8 20 8)
    ∷ admits 0 7 m3
    ∷ quotes (asks 11 8 20 8)
    ∷ quotes (asks 7 8 20 8)
    ∷ admits 0 8 m4
    ∷ releasing 9
    ∷ releasing 7
    ∷ quotes m3
    ∷ opens 0 (replicate 8 0) 35
    ∷ opens 0 two_jobs 71
    ∷ opens 0 two_jobs 75
    ∷ []

-- what they answer: a quote or an admission a refusal or a path, a release a refusal or that the circuit went, jobs in one call
-- a refusal or how many they are, with 36 words for each
abbrev refused : ℕ → Given
refused k = of_request (refuses k) []

abbrev by_three : Reduction → Given
by_three problem = of_request (grants (record { problem = problem; delay = 6; cost = 15; links = 3 })) three

abbrev pub expected : List Given
expected =
    refused 6
    ∷ refused 7
    ∷ refused 8
    ∷ by_three One
    ∷ refused 11
    ∷ refused 9
    ∷ refused 10
    ∷ by_three Two
    ∷ of_release (refuses 13)
    ∷ of_release (grants tt)
    ∷ by_three One
    ∷ of_jobs (refuses 23) []
    ∷ of_jobs (refuses 24) []
    ∷ of_jobs (grants 2) ((9 ∷ replicate 35 0) ++ (0 ∷ 1 ∷ 6 ∷ 15 ∷ 3 ∷ 0 ∷ 1 ∷ 2 ∷ replicate 28 0))
    ∷ []

-- two admissions by rising number, so that a ledger has them the other way round
abbrev pub in_turn : List Lending
in_turn = admits 0 2 m4 ∷ admits 0 7 (asks 4 8 20 8) ∷ []

-- the two jobs as single calls
abbrev pub two_calls : List Lending
two_calls = admits 0 9 (asks 11 8 20 8) ∷ admits 0 7 (asks 4 8 20 8) ∷ []

-- of the first list the calls that remain, lent other words
abbrev pub unquoted : List Lending
unquoted =
    admits 1 7 (asks 4 8 20 8)
    ∷ admits 1 7 m3
    ∷ admits 1 8 m4
    ∷ releasing 9
    ∷ releasing 7
    ∷ opens 1 (replicate 8 0) 35
    ∷ opens 1 two_jobs 71
    ∷ opens 1 two_jobs 75
    ∷ []
