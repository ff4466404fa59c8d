-- Cases of all jobs in one call, by hand, on net A and net B; docs/opening.md has the calculation of each, and O7, a full list, is
-- tried by tests/c/opening.c alone. A case is a call that is granted, with the words that answer each job, the circuits that are held
-- after it and the units that are free then; or a call that is refused with a number. Each means, by specs/AdmitJobs.antt of
-- `rules`, that answer, that answer buffer and that area.
-- Assumes nothing.
use Rattle.std.specs.Prelude.{ℕ, ◌*◌, ◌≤◌, ◌≡◌, List, [], ◌∷◌, ◌++◌, map, length, drop, set, take, replicate}
use Rattle.network.specs.Limits.{work_words}
use Rattle.network.specs.Lists.{from, joined}
use Rattle.network.specs.declared.answer.Reduction.TheVariants.{One, Two}
use Rattle.area.specs.Station.{links_in, held_words, station}
use Rattle.area.specs.Books.{free}
use Rattle.area.specs.Formed.{WellFormed}
use Rattle.area.specs.Refusals.{refuses, grants}
use Rattle.rules.specs.Replies.{PathReply, granting, releases}
use Rattle.rules.specs.Calls.{cleared}
use Rattle.rules.specs.Jobs.{job_at}
use Rattle.rules.specs.AdmitJobs.{JobReply, all_booked, admit_jobs, jobs_booked, JobsMean}
use Rattle.cases.specs.Document01.{net_b, three}
use Rattle.cases.specs.SteadyList.{net_a9, two, five, seven}

-- ---- the jobs
-- a job's seven words, the reply to it, and the 36 words that answer it
pub record Told : Type 0 where
  pub job : List ℕ
  pub reply : PathReply
  pub words : List ℕ

-- circuit number, s, t, units, D, C and coefficient
abbrev job : ℕ → ℕ → ℕ → ℕ → ℕ → ℕ → ℕ → List ℕ
job c s t b d k f = c ∷ s ∷ t ∷ b ∷ d ∷ k ∷ f ∷ []

-- one that is refused with k
abbrev lacks : List ℕ → ℕ → Told
lacks j k = record { job = j; reply = refuses k; words = k ∷ replicate 35 0 }

-- one that is granted the path by three links, by problem one or by problem two
abbrev by_one : List ℕ → Told
by_one j = record { job = j; reply = granting One 6 15 three; words = 0 ∷ 1 ∷ 6 ∷ 15 ∷ 3 ∷ 0 ∷ 1 ∷ 2 ∷ replicate 28 0 }

abbrev by_two : List ℕ → Told
by_two j = record { job = j; reply = granting Two 6 15 three; words = 0 ∷ 2 ∷ 6 ∷ 15 ∷ 3 ∷ 0 ∷ 1 ∷ 2 ∷ replicate 28 0 }

-- net A by link 3, and from 1 to 3
abbrev straight : List ℕ → Told
straight j = record { job = j; reply = granting One 9 1 (3 ∷ []); words = 0 ∷ 1 ∷ 9 ∷ 1 ∷ 1 ∷ 3 ∷ replicate 30 0 }

abbrev last_two : List ℕ → Told
last_two j = record { job = j; reply = granting One 4 10 (1 ∷ 2 ∷ []); words = 0 ∷ 1 ∷ 4 ∷ 10 ∷ 2 ∷ 1 ∷ 2 ∷ replicate 29 0 }

-- net B from 0 to 3, and by link 0 from 1 to 2
abbrev through_b : List ℕ → Told
through_b j = record { job = j; reply = granting One 2 2 (3 ∷ 2 ∷ []); words = 0 ∷ 1 ∷ 2 ∷ 2 ∷ 2 ∷ 3 ∷ 2 ∷ replicate 29 0 }

abbrev across_b : List ℕ → Told
across_b j = record { job = j; reply = granting One 0 1 (0 ∷ []); words = 0 ∷ 1 ∷ 0 ∷ 1 ∷ 1 ∷ replicate 31 0 }

-- the job list, and each job with its reply
abbrev pub list_of : List Told → List ℕ
list_of js = joined (map (λ (t : Told). t.job) js)

abbrev pub replies_of : List Told → List JobReply
replies_of js = map (λ (t : Told). record { job = job_at t.job 0; reply = t.reply }) js

-- the words that answer them
abbrev pub answers_of : List Told → List ℕ
answers_of js = joined (map (λ (t : Told). t.words) js)

-- ---- the lists
-- O1
abbrev six_jobs : List Told
six_jobs =
    by_one (job 7 0 3 4 8 20 8)
    ∷ lacks (job 7 1 3 1 4 10 8) 11
    ∷ straight (job 2 0 3 3 9 1 1)
    ∷ lacks (job 9 0 3 7 8 20 8) 10
    ∷ lacks (job 4 0 3 8 9 20 8) 9
    ∷ last_two (job 5 1 3 2 4 10 8)
    ∷ []

-- O2
abbrev four_jobs : List Told
four_jobs =
    lacks (job 3 0 0 1 8 20 8) 8
    ∷ by_one (job 9 0 3 7 8 20 8)
    ∷ by_two (job 8 0 3 1 8 15 8)
    ∷ lacks (job 1 1 3 1 4 10 8) 9
    ∷ []

-- O4
abbrev jobs_b : List Told
jobs_b =
    through_b (job 20 0 3 3 2 8 4)
    ∷ lacks (job 11 0 3 3 2 8 4) 9
    ∷ through_b (job 12 0 3 2 2 8 4)
    ∷ lacks (job 20 0 3 2 2 8 4) 11
    ∷ across_b (job 13 1 2 4 0 1 1)
    ∷ []

-- ---- the areas
-- after O1, and after the release with which O2 begins
unfoldable pub net_o1 : List ℕ
unfolding net_a9 all_booked
net_o1 = all_booked net_a9 (replies_of six_jobs)

unfoldable pub net_o2 : List ℕ
unfolding net_o1 cleared
net_o2 = cleared net_o1 7 releases

-- ---- the circuits' 34 words, beside those of 2, 5 and 7
abbrev eight : List ℕ
eight = 8 ∷ 1 ∷ 3 ∷ 0 ∷ 1 ∷ 2 ∷ replicate 28 0

abbrev nine : List ℕ
nine = 9 ∷ 7 ∷ 3 ∷ 0 ∷ 1 ∷ 2 ∷ replicate 28 0

abbrev twelve : List ℕ
twelve = 12 ∷ 2 ∷ 2 ∷ 3 ∷ 2 ∷ replicate 29 0

abbrev thirteen : List ℕ
thirteen = 13 ∷ 4 ∷ 1 ∷ replicate 31 0

abbrev twenty : List ℕ
twenty = 20 ∷ 3 ∷ 2 ∷ 3 ∷ 2 ∷ replicate 29 0

-- ---- the cases
-- a case's number in docs/opening.md, its area, and its call: the jobs with what they are answered, the words of each circuit that is
-- held after, in the order of their places, and the free units of each link then; or the length of work memory, the job list, the
-- length of the answer buffer, and the number
pub data JobCase : Type 0 where
  granted : (number : ℕ) → (stands : List ℕ) → List Told → (circuits : List (List ℕ)) → (units : List ℕ) → JobCase
  refused : (number : ℕ) → (stands : List ℕ) → (work : ℕ) → (jobs : List ℕ) → (buffer : ℕ) → (refusal : ℕ) → JobCase

-- a job list of n words, whatever they are
abbrev words : ℕ → List ℕ
words n = replicate n 1

-- the answer buffer of O6 that is long enough for 65 jobs
abbrev long : ℕ
long = 2340

unfoldable pub job_cases : List JobCase
job_cases =
    granted 1 net_a9 six_jobs (two ∷ five ∷ seven ∷ []) (6 ∷ 4 ∷ 4 ∷ 7 ∷ [])
    -- each job that O1 refuses, on the area as it is loaded
    ∷ granted 1 net_a9 (last_two (job 7 1 3 1 4 10 8) ∷ []) ((7 ∷ 1 ∷ 2 ∷ 1 ∷ 2 ∷ replicate 29 0) ∷ []) (10 ∷ 9 ∷ 9 ∷ 10 ∷ [])
    ∷ granted 1 net_a9 (by_one (job 9 0 3 7 8 20 8) ∷ []) (nine ∷ []) (3 ∷ 3 ∷ 3 ∷ 10 ∷ [])
    ∷ granted 1 net_a9 (by_one (job 4 0 3 8 9 20 8) ∷ []) ((4 ∷ 8 ∷ 3 ∷ 0 ∷ 1 ∷ 2 ∷ replicate 28 0) ∷ []) (2 ∷ 2 ∷ 2 ∷ 10 ∷ [])
    -- after single calls
    ∷ granted 2 net_o2 four_jobs (two ∷ five ∷ eight ∷ nine ∷ []) (2 ∷ 0 ∷ 0 ∷ 7 ∷ [])
    -- two of O1's jobs in another order
    ∷ granted 3 net_a9 (by_one (job 9 0 3 7 8 20 8) ∷ lacks (job 7 0 3 4 8 20 8) 10 ∷ []) (nine ∷ []) (3 ∷ 3 ∷ 3 ∷ 10 ∷ [])
    ∷ granted 4 net_b jobs_b (twelve ∷ thirteen ∷ twenty ∷ []) (1 ∷ 5 ∷ 0 ∷ 0 ∷ [])
    -- no jobs
    ∷ granted 5 net_a9 [] [] (10 ∷ 10 ∷ 10 ∷ 10 ∷ [])
    ∷ granted 5 net_o1 [] (two ∷ five ∷ seven ∷ []) (6 ∷ 4 ∷ 4 ∷ 7 ∷ [])
    -- refused calls
    ∷ refused 6 net_o1 work_words (words 6) long 23
    ∷ refused 6 net_o1 work_words (words 8) long 23
    ∷ refused 6 net_o1 work_words (words 447) long 23
    ∷ refused 6 net_o1 work_words (words 449) long 23
    ∷ refused 6 net_o1 work_words (words 455) long 23
    ∷ refused 6 net_o1 work_words (words 7) 35 24
    ∷ refused 6 net_o1 work_words (list_of six_jobs) 215 24
    ∷ refused 6 net_o1 work_words (words 448) 2303 24
    ∷ refused 6 net_o1 work_words (words 8) 0 23
    ∷ refused 6 net_o1 work_words (words 455) 0 23
    ∷ refused 6 net_o1 16383 (words 8) 0 6
    ∷ refused 6 net_o1 16383 (words 7) 35 6
    ∷ refused 6 (take 3490 net_o1) 16383 (words 8) 0 5
    ∷ refused 6 (set net_o1 2 65) 16383 (words 8) 0 5
    ∷ refused 6 (set net_o1 2 65) work_words (list_of six_jobs) long 5
    ∷ []

-- ---- what they say
-- the area that the call leaves, with an answer buffer of n words
abbrev pub area_left : List ℕ → List ℕ → ℕ → List ℕ
area_left w jobs n = jobs_booked w (admit_jobs w work_words jobs n)

-- with the answer buffer l the call gives the number of jobs, their answers stand in its first words, those past them keep theirs, and
-- the area after has these words of circuits and these free units
pub record Opens (w : List ℕ) (js : List Told) (circuits : List (List ℕ)) (units l : List ℕ) : Type 0 where
  pub replies : admit_jobs w work_words (list_of js) (length l) ≡ grants (replies_of js)
  pub means : JobsMean w work_words (list_of js) l (grants (length js)) (answers_of js ++ drop (36 * length js) l) (area_left w (list_of js) (length l))
  pub formed : WellFormed (area_left w (list_of js) (length l))
  pub words : held_words (area_left w (list_of js) (length l)) ≡ joined circuits
  pub free_units : from (free (station (area_left w (list_of js) (length l)))) 0 (links_in w) ≡ units

-- the same with every answer buffer that is long enough; a refused call changes no word
abbrev pub JobCaseHolds : JobCase → Type 0
JobCaseHolds (granted k w js circuits units) = (l : List ℕ) → 36 * length js ≤ length l → Opens w js circuits units l
JobCaseHolds (refused k w work jobs n refusal) = (l : List ℕ) → length l ≡ n → JobsMean w work jobs l (refuses refusal) l w
