-- All jobs in one call (Req 06): what it replies, leaves in the area and writes in the answer buffer, and what that means. Its jobs are
-- admitted singly, in their order, each by the definition of a single admission.
-- Assumes nothing.
use Rattle.std.specs.Prelude.{ℕ, ◌+◌, ◌*◌, ◌<◌, ◌≡◌, List, [], ◌∷◌, ◌++◌, map, leb, length, drop, replicate}
use Rattle.network.specs.Limits.{path_words, work_words}
use Rattle.network.specs.Lists.{joined}
use Rattle.network.specs.Reduce.{problem_number}
use Rattle.area.specs.Formed.{WellFormed, well_formed}
use Rattle.area.specs.Refusals.{Rule, ◌when◌, Passes, Reply, refuses, grants, Answered}
use Rattle.area.specs.Checks.{Check, ◌unless◌, checked}
use Rattle.area.specs.Reads.{count_of}
use Rattle.rules.specs.Replies.{PathReply, path_after}
use Rattle.rules.specs.Calls.{admission, booked}
use Rattle.rules.specs.Meaning.{Admitted, AreaBooked}
use Rattle.rules.specs.declared.Job.{Job}
use Rattle.rules.specs.Jobs.{job_count, jobs_in, WholeJobs, whole_jobs}

-- ---- its admission
-- a job, and the reply to its admission
pub record JobReply : Type 0 where
  pub job : Job
  pub reply : PathReply

-- on an area w, with a path buffer of 31 words
abbrev pub admit_job : List ℕ → ℕ → Job → JobReply
admit_job w work j = record { job = j; reply = admission w work path_words j.number j.request }

-- the area after it
abbrev pub job_booked : List ℕ → JobReply → List ℕ
job_booked w a = booked w a.job.number a.job.request.terms.units a.reply

-- jobs admitted one after another, each on the area that the one before left, refused or not
unfoldable pub singly : List ℕ → ℕ → List Job → List JobReply
unfolding admission booked
singly w work [] = []
singly w work (j ∷ js) = admit_job w work j ∷ singly (job_booked w (admit_job w work j)) work js

-- the area that the last of them leaves
unfoldable pub all_booked : List ℕ → List JobReply → List ℕ
unfolding booked
all_booked w [] = w
all_booked w (a ∷ rs) = all_booked (job_booked w a) rs

-- ---- the words that answer it, of which `booking/src/jobs.rt` has the length under the same name
-- the words that answer a job: first refusal number or 0, problem, delay, cost and l, then the path words
abbrev pub answer_words : ℕ
answer_words = 36

abbrev pub head_words : PathReply → List ℕ
head_words (refuses k) = k ∷ 0 ∷ 0 ∷ 0 ∷ 0 ∷ []
head_words (grants g) = 0 ∷ problem_number g.problem ∷ g.delay ∷ g.cost ∷ length g.path ∷ []

-- the path as an admission writes it in a path buffer of zeros, so that every word that is not used is 0
abbrev pub reply_words : PathReply → List ℕ
reply_words a = head_words a ++ path_after a (replicate path_words 0)

-- how many of them are used: a refusal's number, or five and the path's links
abbrev pub used_words : PathReply → ℕ
used_words (refuses k) = 1
used_words (grants g) = 5 + length g.path

abbrev pub job_answer : JobReply → List ℕ
job_answer a = reply_words a.reply

unfoldable pub job_answers : List JobReply → List ℕ
unfolding path_after
job_answers rs = joined (map job_answer rs)

-- ---- the call
-- what it replies: a refusal, or its jobs with their replies
abbrev pub JobsReply : Type 0
JobsReply = Reply (List JobReply)

-- the checks past that of the area, with the lengths of work memory and answer buffer
abbrev pub job_list_checks : ℕ → List ℕ → ℕ → List Check
job_list_checks work words buffer =
    (6 unless leb work_words work) ∷ (23 unless whole_jobs words) ∷ (24 unless leb (answer_words * job_count words) buffer) ∷ []

abbrev pub jobs_checks : List ℕ → ℕ → List ℕ → ℕ → List Check
jobs_checks w work words buffer = (5 unless well_formed w) ∷ job_list_checks work words buffer

-- what those checks alone say: a refusal with its number, or how many jobs there are
abbrev pub jobs_checked : ℕ → List ℕ → ℕ → Reply ℕ
jobs_checked work words buffer = checked refuses (job_list_checks work words buffer) (grants (job_count words))

unfoldable pub admit_jobs : List ℕ → ℕ → List ℕ → ℕ → JobsReply
unfolding well_formed singly
admit_jobs w work words buffer = checked refuses (jobs_checks w work words buffer) (grants (singly w work (jobs_in words)))

-- the area after
unfoldable pub jobs_booked : List ℕ → JobsReply → List ℕ
unfolding all_booked
jobs_booked w (refuses k) = w
jobs_booked w (grants rs) = all_booked w rs

-- the answer buffer after: 36 words for each job, and the words past the last one's keep theirs
unfoldable pub jobs_answered : JobsReply → List ℕ → List ℕ
unfolding job_answers
jobs_answered (refuses k) l = l
jobs_answered (grants rs) l = job_answers rs ++ drop (answer_words * length rs) l

-- ---- what it means, with no algorithm
-- the rules past that of the area
abbrev pub job_list_rules : ℕ → List ℕ → ℕ → List Rule
job_list_rules work words buffer =
    (6 when work < work_words) ∷ (23 when (WholeJobs words → ⊥)) ∷ (24 when buffer < answer_words * job_count words) ∷ []

abbrev pub jobs_rules : List ℕ → ℕ → List ℕ → ℕ → List Rule
jobs_rules w work words buffer = (5 when (WellFormed w → ⊥)) ∷ job_list_rules work words buffer

-- one reply for each job, in the order given
abbrev pub OneForEach : List ℕ → List JobReply → Type 0
OneForEach words rs = map (λ (a : JobReply). a.job) rs ≡ jobs_in words

-- the replies, one after another, are admissions: each is allowed by the rules on the area w where it comes, and leaves the area as
-- an admission does; w' is what the last leaves
abbrev pub Singly : List ℕ → ℕ → List JobReply → List ℕ → Type 0
Singly w work [] w' = w' ≡ w
Singly w work (a ∷ rs) w' =
    Admitted w work path_words a.job.number a.job.request a.reply
    × ((v : List ℕ) × AreaBooked w a.job.number a.job.request.terms.units a.reply v × Singly v work rs w')

abbrev pub AreaJobs : List ℕ → ℕ → JobsReply → List ℕ → Type 0
AreaJobs w work (refuses k) w' = w' ≡ w
AreaJobs w work (grants rs) w' = Singly w work rs w'

-- what the call does not check for each job: on the area where it comes the rules 5, 6 and 7 do not apply to it
abbrev pub LeftOut : List ℕ → ℕ → List JobReply → Type 0
LeftOut w work [] = Unit
LeftOut w work (a ∷ rs) =
    Passes ((5 when (WellFormed w → ⊥)) ∷ (6 when work < work_words) ∷ (7 when path_words < path_words) ∷ [])
    × LeftOut (job_booked w a) work rs

-- A call on the words w, with `work` words of work memory, the job list `words` and the answer buffer l, answered `said`, and
-- left l' in the buffer and w' in the area: there is a reply that the rules allow, and these are its answer and what it leaves.
pub record JobsMean (w : List ℕ) (work : ℕ) (words l : List ℕ) (said : Reply ℕ) (l' w' : List ℕ) : Type 0 where
  pub reply : JobsReply
  pub allowed : Answered (OneForEach words) (jobs_rules w work words (length l)) reply
  pub answer : said ≡ count_of reply
  pub answers : l' ≡ jobs_answered reply l
  pub area : AreaJobs w work reply w'
