-- A job list (Req 06): the jobs that a station sends together as it opens, seven words each; as a statement, and as the test that the
-- code runs.
-- Assumes nothing.
use Rattle.std.specs.Prelude.{ℕ, ◌+◌, ◌*◌, ◌/◌, ◌%◌, ◌≤◌, ◌≡◌, Bool, ◌&&◌, List, leb, eqb, length, get_or}
use Rattle.network.specs.Lists.{from}
use Rattle.network.specs.Reduce.{asking}
use Rattle.rules.specs.declared.Job.{Job}

-- ---- its lengths, which `booking/src/jobs.rt` has under the same names; the contract of `booking::jobs::admit_jobs` equates the
-- two, since it holds for every count of words
-- the words of a job, the most jobs, and the words of a full job list
abbrev pub job_words : ℕ
job_words = 7

abbrev pub most_jobs : ℕ
most_jobs = 64

abbrev pub job_list_words : ℕ
job_list_words = job_words * most_jobs

-- ---- a job
-- job k of a list: circuit number, s, t, units, D, C, coefficient
abbrev pub job_at : List ℕ → ℕ → Job
job_at words k =
    let at = job_words * k in
    record {
      number = get_or words at 0;
      request =
          asking (get_or words (at + 1) 0) (get_or words (at + 2) 0) (get_or words (at + 3) 0) (get_or words (at + 4) 0)
          (get_or words (at + 5) 0) (get_or words (at + 6) 0);
    }

abbrev pub job_count : List ℕ → ℕ
job_count words = length words / job_words

abbrev pub jobs_in : List ℕ → List Job
jobs_in words = from (job_at words) 0 (job_count words)

-- ---- which lists are taken
-- the word count is a multiple of seven, and not over 448
pub record WholeJobs (words : List ℕ) : Type 0 where
  pub whole : length words % job_words ≡ 0
  pub few : length words ≤ job_list_words

abbrev pub whole_jobs : List ℕ → Bool
whole_jobs words = eqb (length words % job_words) 0 && leb (length words) job_list_words
