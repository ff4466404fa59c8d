-- The answers to the list of calls and the bookings at its end, as docs/history.md calculates them by hand.
-- Assumes nothing.
use Rattle.std.specs.Prelude.{ℕ, ◌-◌, List, [], ◌∷◌, ◌++◌, length, replicate}
use Rattle.network.specs.Limits.{path_words}
use Rattle.network.specs.Reduce.{problem_number}
use Rattle.network.specs.declared.answer.Reduction.{Reduction}
use Rattle.network.specs.declared.answer.Reduction.TheVariants.{One, Two}
use Rattle.area.specs.Refusals.{refuses, grants}
use Rattle.area.specs.Station.{Circuit}
use Rattle.ledger.specs.History.{Given, of_request, of_release, of_jobs}
use Rattle.cases.specs.Document01.{three}

abbrev refused : ℕ → Given
refused k = of_request (refuses k) []

abbrev granted : Reduction → ℕ → ℕ → List ℕ → Given
granted which d c p = of_request (grants (record { problem = which; delay = d; cost = c; links = length p })) p

abbrev unreleased : ℕ → Given
unreleased k = of_release (refuses k)

abbrev released : Given
released = of_release (grants tt)

abbrev unopened : ℕ → Given
unopened k = of_jobs (refuses k) []

-- the 36 words that answer a job
abbrev refused_job : ℕ → List ℕ
refused_job k = k ∷ replicate 35 0

abbrev granted_job : Reduction → ℕ → ℕ → List ℕ → List ℕ
granted_job which d c p = 0 ∷ problem_number which ∷ d ∷ c ∷ length p ∷ p ++ replicate (path_words - length p) 0

-- by the three links, and by link 3
abbrev by_three : Reduction → Given
by_three which = granted which 6 15 three

abbrev by_link3 : Given
by_link3 = granted One 9 1 (3 ∷ [])

abbrev pub expected : List Given
expected =
    -- rows 0 to 9
    by_three One
    ∷ by_three One
    ∷ by_three One
    ∷ refused 10
    ∷ refused 11
    ∷ refused 11
    ∷ by_link3
    ∷ refused 9
    ∷ by_three One
    ∷ refused 10
    -- rows 10 to 17
    ∷ released
    ∷ by_three One
    ∷ unreleased 13
    ∷ by_three Two
    ∷ refused 10
    ∷ refused 6
    ∷ refused 7
    ∷ refused 8
    -- rows 18 to 24
    ∷ granted One 4 10 (1 ∷ 2 ∷ [])
    ∷ refused 10
    ∷ refused 9
    ∷ released
    ∷ by_link3
    ∷ by_link3
    ∷ refused 11
    -- rows 25 to 29
    ∷ released
    ∷ of_jobs (grants 4) (granted_job One 6 15 three ++ refused_job 9 ++ refused_job 11 ++ granted_job One 2 5 (0 ∷ []))
    ∷ refused 9
    ∷ unopened 6
    ∷ unopened 24
    ∷ []

abbrev circuit : ℕ → ℕ → List ℕ → Circuit
circuit c u p = record { number = c; units = u; path = p }

-- by rising number; in the order of admission they are 7, 65535, 8, 21 and 22
abbrev pub held : List Circuit
held =
    circuit 7 2 three
    ∷ circuit 8 10 (3 ∷ [])
    ∷ circuit 21 6 three
    ∷ circuit 22 1 (0 ∷ [])
    ∷ circuit 65535 2 (1 ∷ 2 ∷ [])
    ∷ []
