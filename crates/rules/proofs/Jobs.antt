-- All jobs in one call: every reply is the one that the rules allow, its jobs' replies are admissions one after another, one for
-- each job, and the checks that the call does not make for each job would have passed.
-- Assumes nothing.
use Prim.Native.Nat.{ℕ, zero, suc, ◌+◌, ◌*◌, ◌%◌, ◌≤◌, ◌<◌}
use mathlib.Core.Path.{◌≡◌, refl, sym, ap, ◌∙◌, subst}
use mathlib.Core.Bool.{Bool, true}
use mathlib.Core.List.{List, [], ◌∷◌, ◌++◌, map}
use native.Mathlib.Omega.{arith}
use lib.Dec.{eqb}
use lib.ListN.{length, get_or, drop, replicate, length-append, length-drop, length-replicate}
use borrow.Author.Tests.{leb-true, le-leb, eqb-true, eq-eqb}
use Rattle.network.specs.Limits.{path_words, work_words}
use Rattle.network.specs.Lists.{All, memb}
use Rattle.network.proofs.Tests.{both, fst_of, snd_of, zero_one}
use Rattle.area.specs.Formed.{WellFormed}
use Rattle.area.specs.Refusals.{◌when◌, Passes, Reply, refuses, grants, Answered}
use Rattle.area.specs.Reads.{count_of}
use Rattle.area.proofs.Checks.{Tested, tests_not, tests_short, checked_answers, all_pass}
use Rattle.area.proofs.Formed.{formed_test}
use Rattle.area.proofs.Refusals.{first_among, past, refused_exactly}
use Rattle.rules.specs.declared.Job.{Job}
use Rattle.rules.specs.Calls.{admission}
use Rattle.rules.specs.Meaning.{books_in, net_for}
use Rattle.rules.specs.Allowed.{Grant, number_rules, search_rules}
use Rattle.rules.specs.Jobs.{job_words, job_list_words, job_at, job_count, jobs_in, WholeJobs, whole_jobs}
use Rattle.rules.specs.AdmitJobs.{JobReply, JobsReply, admit_job, job_booked, singly, all_booked, answer_words, used_words, reply_words, job_answer, job_answers, jobs_checks, admit_jobs, jobs_booked, jobs_answered, jobs_rules, OneForEach, Singly, AreaJobs, LeftOut, JobsMean}
use Rattle.rules.proofs.Meaning.{admission_means, area_tested}
use Rattle.network.specs.Reduce.{problem_number, asking}
use lib.Seq.{get_or-drop}
use Rattle.rules.specs.Replies.{PathReply, path_after}
use Rattle.rules.specs.Requests.{RequestFits}
use Rattle.rules.proofs.Bookings.{admission_granted, grant_path, seen_short, admitted_formed, admitted_area}

-- ---- the word count of a job list: the test says what the statement says
module _ (words : List ℕ) where
  abbrev whole : Bool
  whole = eqb (length words % job_words) 0

  pub whole_says : whole_jobs words ≡ true → WholeJobs words
  whole_says e =
      record {
        whole = eqb-true (length words % job_words) 0 (fst_of whole _ e);
        few = leb-true (length words) job_list_words (snd_of whole _ e);
      }

  pub whole_test : WholeJobs words → whole_jobs words ≡ true
  whole_test h = both whole _ (eq-eqb (length words % job_words) 0 h.whole) (le-leb (length words) job_list_words h.few)

  -- and whole jobs are all the words that there are
  pub all_counted : WholeJobs words → job_words * job_count words ≡ length words
  all_counted h = omega (arith, h.whole)

-- the most of a list is said twice: 64 jobs, and 448 words
pub full_list : job_list_words ≡ 448
full_list = refl

-- ---- its jobs: the first seven words are the first, and the others are those of the words behind
module _ (c s t u d e k : ℕ) (rest : List ℕ) where
  abbrev words_of : List ℕ
  words_of = c ∷ s ∷ t ∷ u ∷ d ∷ e ∷ k ∷ rest

  pub first_job : job_at words_of 0 ≡ record { number = c; request = asking s t u d e k }
  first_job = refl

  behind : (i j : ℕ) → i ≡ 7 + j → get_or words_of i 0 ≡ get_or rest j 0
  behind i j e = ap (λ (n : ℕ). get_or words_of n 0) e ∙ sym (get_or-drop 7 words_of j 0)

  pub next_job : (n : ℕ) → job_at words_of (suc n) ≡ job_at rest n
  next_job n =
      let at = job_words * suc n in
      let next = job_words * n in
      rw (behind at next (omega arith), behind (at + 1) (next + 1) (omega arith), behind (at + 2) (next + 2) (omega arith), behind (at + 3) (next + 3) (omega arith), behind (at + 4) (next + 4) (omega arith), behind (at + 5) (next + 5) (omega arith), behind (at + 6) (next + 6) (omega arith))
      refl

-- ---- jobs admitted singly
-- one reply for each
pub one_for_each : (w : List ℕ) (work : ℕ) (js : List Job) → map (λ (a : JobReply). a.job) (singly w work js) ≡ js
unfolding singly
one_for_each w work [] = refl
one_for_each w work (j ∷ js) = ap (λ (l : List Job). j ∷ l) (one_for_each (job_booked w (admit_job w work j)) work js)

-- each is an admission where it comes
pub singly_means : (w : List ℕ) (work : ℕ) (js : List Job) → Singly w work (singly w work js) (all_booked w (singly w work js))
unfolding singly all_booked
singly_means w work [] = refl
singly_means w work (j ∷ js) = (
  admission_means w work path_words j.request j.number,
  (
    job_booked w (admit_job w work j),
    admitted_area w work path_words j.number j.request,
    singly_means (job_booked w (admit_job w work j)) work js,
  ),
)

-- a well-formed area stays well formed from job to job
pub singly_formed : (w : List ℕ) (work : ℕ) (js : List Job) → WellFormed w → WellFormed (all_booked w (singly w work js))
unfolding singly all_booked
singly_formed w work [] formed = formed
singly_formed w work (j ∷ js) formed =
    singly_formed (job_booked w (admit_job w work j)) work js (admitted_formed w work path_words j.number j.request formed)

-- so the checks of the area and of the lengths would pass at each
pub left_out : (w : List ℕ) (work : ℕ) (js : List Job) → WellFormed w → work_words ≤ work → LeftOut w work (singly w work js)
unfolding singly
left_out w work [] formed enough = tt
left_out w work (j ∷ js) formed enough = (
  (λ lacks. lacks formed, (λ low. omega (arith, enough, low), (λ low. omega (arith, low), tt))),
  left_out (job_booked w (admit_job w work j)) work js (admitted_formed w work path_words j.number j.request formed) enough,
)

-- and no job is refused by one of the three
job_refused : (w : List ℕ) (work : ℕ) (j : Job) → Passes ((5 when (WellFormed w → ⊥)) ∷ (6 when work < work_words) ∷ (7 when path_words < path_words) ∷ [])
    → (k : ℕ) → (admit_job w work j).reply ≡ refuses k → memb k (8 ∷ 11 ∷ 12 ∷ 9 ∷ 10 ∷ []) ≡ true
job_refused w work j passes k e =
    let g = net_for w j.request in
    let left = (8 when (RequestFits (books_in w).table.nodes j.request → ⊥)) ∷ number_rules (books_in w) j.number ++ search_rules g j.request in
    let h = past (Grant g j.request) ((5 when (WellFormed w → ⊥)) ∷ (6 when work < work_words) ∷ (7 when path_words < path_words) ∷ []) left
    (admit_job w work j).reply passes (admission_means w work path_words j.request j.number) in
    first_among left k ((refused_exactly (Grant g j.request) left (admit_job w work j).reply h k).0 e)

pub jobs_refused : (w : List ℕ) (work : ℕ) (js : List Job) → LeftOut w work (singly w work js)
    → All (λ (a : JobReply). (k : ℕ) → a.reply ≡ refuses k → memb k (8 ∷ 11 ∷ 12 ∷ 9 ∷ 10 ∷ []) ≡ true) (singly w work js)
unfolding singly
jobs_refused w work [] passes = tt
jobs_refused w work (j ∷ js) passes = (job_refused w work j passes.0, jobs_refused (job_booked w (admit_job w work j)) work js passes.1)

-- ---- the words that answer a job
zeros : (n i : ℕ) → get_or (replicate {A = ℕ} n 0) i 0 ≡ 0
zeros zero i = refl
zeros (suc n) zero = refl
zeros (suc n) (suc i) = zeros n i

past_used : (used rest : List ℕ) → ((i : ℕ) → get_or rest i 0 ≡ 0) → (i : ℕ) → length used ≤ i → get_or (used ++ rest) i 0 ≡ 0
past_used [] rest clear i high = clear i
past_used (a ∷ used) rest clear zero high = absurd (omega (arith, high))
past_used (a ∷ used) rest clear (suc i) high = past_used used rest clear i (omega (arith, high))

-- past the number of a refusal, and past the last link of a path, every word is 0
pub answer_clear : (a : PathReply) (i : ℕ) → used_words a ≤ i → get_or (reply_words a) i 0 ≡ 0
unfolding path_after
answer_clear (refuses k) i high = past_used (k ∷ []) (replicate 35 0) (zeros 35) i high
answer_clear (grants g) i high =
    past_used (0 ∷ problem_number g.problem ∷ g.delay ∷ g.cost ∷ length g.path ∷ g.path) (drop (length g.path) (replicate path_words 0))
    (λ j. get_or-drop (length g.path) (replicate path_words 0) j 0 ∙ zeros path_words (length g.path + j)) i (omega (arith, high))

-- so many they are, since a granted path has no more links than a path may
pub answer_long : (w : List ℕ) (work : ℕ) (j : Job) → length (job_answer (admit_job w work j)) ≡ answer_words
unfolding path_after
answer_long w work j = go (admission w work path_words j.number j.request) refl
  where
    go : (a : PathReply) → admission w work path_words j.number j.request ≡ a → length (reply_words a) ≡ answer_words
    go (refuses k) e = refl
    go (grants g) e =
        let ok = admission_granted w work path_words j.number j.request g e in
        let short = seen_short w j.request ok.formed ok.request g.path (grant_path ok.grant) in
        rw (length-append g.path (drop (length g.path) (replicate {A = ℕ} path_words 0)), length-drop (length g.path) (replicate {A = ℕ} path_words 0), length-replicate {A = ℕ} path_words 0)
        (omega (arith, short))

pub answers_long : (w : List ℕ) (work : ℕ) (js : List Job) → length (job_answers (singly w work js)) ≡ answer_words * length (singly w work js)
unfolding singly job_answers
answers_long w work [] = refl
answers_long w work (j ∷ js) =
    rw (length-append (job_answer (admit_job w work j)) (job_answers (singly (job_booked w (admit_job w work j)) work js)))
    (omega (arith, answer_long w work j, answers_long (job_booked w (admit_job w work j)) work js))

-- ---- the call
module _ (w : List ℕ) (work : ℕ) (words : List ℕ) (buffer : ℕ) where
  jobs_tested : Tested (jobs_checks w work words buffer) (jobs_rules w work words buffer)
  jobs_tested = (
    area_tested w,
    (
      tests_short 6 (omega arith) work_words work,
      (
        tests_not 23 (omega arith) (whole_jobs words) (whole_says words) (whole_test words),
        (tests_short 24 (omega arith) (answer_words * job_count words) buffer, tt),
      ),
    ),
  )

  -- every reply is the one that the rules give
  pub jobs_means : Answered (OneForEach words) (jobs_rules w work words buffer) (admit_jobs w work words buffer)
  unfolding admit_jobs
  jobs_means =
      checked_answers (OneForEach words) (jobs_checks w work words buffer) (jobs_rules w work words buffer) jobs_tested []
      (grants (singly w work (jobs_in words)))
      (λ p. (tt, one_for_each w work (jobs_in words)))

  -- a granted one is that of the jobs admitted singly, and comes past every rule
  pub jobs_granted : (rs : List JobReply) → admit_jobs w work words buffer ≡ grants rs → (rs ≡ singly w work (jobs_in words)) × Passes (jobs_rules w work words buffer)
  unfolding admit_jobs
  jobs_granted rs e = (same, (subst (Answered (OneForEach words) (jobs_rules w work words buffer)) e jobs_means).0)
    where
      other : (k : ℕ) → ◌≡◌ {A = JobsReply} (refuses k) (grants rs) → ⊥
      other k q = zero_one cc

      same : rs ≡ singly w work (jobs_in words)
      same =
          let it : ◌≡◌ {A = JobsReply} (grants (singly w work (jobs_in words))) (grants rs) =
          (all_pass refuses (jobs_checks w work words buffer) (grants (singly w work (jobs_in words))) (grants rs) other e).1 in
          cc

  -- what it leaves in the area
  pub jobs_area : AreaJobs w work (admit_jobs w work words buffer) (jobs_booked w (admit_jobs w work words buffer))
  unfolding jobs_booked
  jobs_area = go (admit_jobs w work words buffer) refl
    where
      go : (a : JobsReply) → admit_jobs w work words buffer ≡ a → AreaJobs w work a (jobs_booked w a)
      go (refuses k) e = refl
      go (grants rs) e = rw (jobs_granted rs e).0 (singly_means w work (jobs_in words))

  pub jobs_formed : WellFormed w → WellFormed (jobs_booked w (admit_jobs w work words buffer))
  unfolding jobs_booked
  jobs_formed formed = go (admit_jobs w work words buffer) refl
    where
      go : (a : JobsReply) → admit_jobs w work words buffer ≡ a → WellFormed (jobs_booked w a)
      go (refuses k) e = formed
      go (grants rs) e = rw (jobs_granted rs e).0 (singly_formed w work (jobs_in words) formed)

-- what the contract says is what the call means
pub jobs_meant : (w : List ℕ) (work : ℕ) (words l : List ℕ) (said : Reply ℕ) → said ≡ count_of (admit_jobs w work words (length l))
    → (l' : List ℕ) → l' ≡ jobs_answered (admit_jobs w work words (length l)) l
    → (w' : List ℕ) → w' ≡ jobs_booked w (admit_jobs w work words (length l))
    → JobsMean w work words l said l' w'
jobs_meant w work words l said answers l' holds w' leaves =
    record {
      reply = admit_jobs w work words (length l);
      allowed = jobs_means w work words (length l);
      answer = answers;
      answers = holds;
      area = rw leaves (jobs_area w work words (length l));
    }

-- no jobs are granted
pub none_granted : (w : List ℕ) (work buffer : ℕ) → WellFormed w → work_words ≤ work → admit_jobs w work [] buffer ≡ grants []
unfolding admit_jobs singly
none_granted w work buffer formed enough = rw (formed_test w formed, le-leb work_words work enough, le-leb 0 buffer (omega arith)) refl
