-- A job list: what is one and what is not, and its first and last job. All jobs in one call on net A: jobs that are refused and
-- jobs that are granted, one after another, their words, and those past them; the refusals of the call in their order; the checks
-- that it makes once for all jobs; and what such a call means, and what it does not.
-- Assumes nothing.
use Prim.Native.Nat.{ℕ}
use mathlib.Core.Path.{◌≡◌, refl, sym, ap, ◌∙◌, subst}
use mathlib.Core.Bool.{true, false, true≢false}
use mathlib.Core.List.{List, [], ◌∷◌, ◌++◌, map, head-eq_of_cons-eq, tail-eq_of_cons-eq}
use mathlib.Core.Logic.{inl, inr}
use native.Mathlib.Omega.{arith}
use lib.ListN.{length, get_or, replicate}
use Rattle.network.specs.Loops.{iter, first}
use Rattle.network.specs.Scale.{scaled}
use Rattle.network.specs.Cut.{noted, follow}
use Rattle.network.specs.Reduce.{problem_one, problem_two, asking}
use Rattle.search.specs.ebf.Table.{cell, cells, filled, initialised, improved, relaxed, offered, column, round, rounds, ebf}
use Rattle.search.specs.ebf.Trace.{place_back, step_back, traced}
use Rattle.search.specs.ebf.Solve.{path_in, answer_in, solve_in, solve}
use Rattle.search.specs.Distance.{spread, layer, distance}
use Rattle.search.specs.Heuristic.{tried, search}
use Rattle.search.specs.Result.{outcome}
use Rattle.network.specs.declared.answer.Reduction.TheVariants.{One, Two}
use Rattle.area.specs.Station.{table_in, circuit_of, station}
use Rattle.area.specs.Books.{holds, books}
use Rattle.area.specs.FreeIn.{free_in}
use Rattle.area.specs.Order.{placed}
use Rattle.area.specs.Units.{taken}
use Rattle.area.specs.Refusals.{Rule, FirstApplies, Passes, refuses, grants}
use Rattle.area.specs.Reads.{count_of}
use Rattle.area.proofs.Refusals.{one_first, none_first}
use Rattle.rules.specs.Replies.{PathGrant, PathReply, granting, path_after}
use Rattle.rules.specs.Calls.{admission, booked}
use Rattle.rules.specs.Allowed.{search_rules, number_rules}
use Rattle.rules.specs.Meaning.{books_in, quote_rules, net_for, circuit_for, Admitted, AreaBooked}
use Rattle.rules.specs.declared.Job.{Job}
use Rattle.rules.specs.Jobs.{job_at, job_count, jobs_in, WholeJobs, whole_jobs}
use Rattle.rules.specs.AdmitJobs.{JobReply, singly, all_booked, head_words, reply_words, used_words, job_answer, job_answers, JobsReply, jobs_checked, admit_jobs, jobs_booked, jobs_answered, jobs_rules, OneForEach, Singly, LeftOut, JobsMean}
use Rattle.rules.proofs.Meaning.{admission_means}
use Rattle.rules.proofs.Jobs.{singly_means, left_out, jobs_meant}
use Rattle.cases.specs.Document01.{asks, three}
use Rattle.instances.specs.Areas.{fresh_a, held_a, two_a}
use Rattle.instances.specs.Calls.{over_words, fits_words, two_jobs}
use Rattle.instances.proofs.Areas.{fresh_formed, over_unformed}
use Rattle.instances.proofs.Bookings.{admissions}
use Rattle.instances.proofs.Meanings.{jobs_refused, jobs_granted, jobs_counted, two_admitted}

-- ---- its words: none, one job, two jobs, 64 jobs
pub none_whole : WholeJobs []
none_whole = record { whole = refl; few = omega arith }

pub one_whole : WholeJobs (replicate 7 0)
one_whole = record { whole = refl; few = omega arith }

pub most_whole : WholeJobs (replicate 448 0)
most_whole = record { whole = refl; few = omega arith }

pub two_whole : WholeJobs two_jobs
two_whole = record { whole = refl; few = omega arith }

-- not a word fewer or more than one job's, nor 65 jobs, each for its own reason
pub six_not_whole : WholeJobs (replicate 6 0) → ⊥
six_not_whole h = omega (arith, h.whole)

pub eight_not_whole : WholeJobs (replicate 8 0) → ⊥
eight_not_whole h = omega (arith, h.whole)

pub long_not_few : WholeJobs (replicate 455 0) → ⊥
long_not_few h = omega (arith, h.few)

pub record WholeTests : Type 0 where
  pub none : whole_jobs [] ≡ true
  pub one : whole_jobs (replicate 7 0) ≡ true
  pub most : whole_jobs (replicate 448 0) ≡ true
  pub six : whole_jobs (replicate 6 0) ≡ false
  pub eight : whole_jobs (replicate 8 0) ≡ false
  pub under : whole_jobs (replicate 447 0) ≡ false
  pub over : whole_jobs (replicate 449 0) ≡ false
  pub long : whole_jobs (replicate 455 0) ≡ false

pub whole_tests : WholeTests
whole_tests =
    record { none = refl; one = refl; most = refl; six = refl; eight = refl; under = refl; over = refl; long = refl }

-- ---- its jobs
-- circuit 9 asks for more units than any link has, circuit 7 for 4
abbrev pub over : Job
over = record { number = 9; request = asks 11 8 20 8 }

abbrev pub fits : Job
fits = record { number = 7; request = asks 4 8 20 8 }

pub record JobsAt : Type 0 where
  pub count : job_count two_jobs ≡ 2
  pub first_job : job_at two_jobs 0 ≡ over
  pub last_job : job_at two_jobs 1 ≡ fits
  pub all : jobs_in two_jobs ≡ over ∷ fits ∷ []
  pub none : jobs_in [] ≡ []
  -- and of 64
  pub most : length (jobs_in (replicate 441 0 ++ fits_words)) ≡ 64
  pub last_of_most : job_at (replicate 441 0 ++ fits_words) 63 ≡ fits

pub jobs_at : JobsAt
jobs_at = record { count = refl; first_job = refl; last_job = refl; all = refl; none = refl; most = refl; last_of_most = refl }

-- each word is the number that it should be, and no other
pub seven_numbers : job_at (1 ∷ 2 ∷ 3 ∷ 4 ∷ 5 ∷ 6 ∷ 7 ∷ []) 0 ≡ record { number = 1; request = asking 2 3 4 5 6 7 }
seven_numbers = refl

pub ends_not_turned : job_at over_words 0 ≡ record { number = 9; request = asking 3 0 11 8 20 8 } → ⊥
ends_not_turned h = omega (arith, ap (λ (j : Job). j.request.source) h)

pub bounds_not_turned : job_at over_words 0 ≡ record { number = 9; request = asks 11 20 8 8 } → ⊥
bounds_not_turned h = omega (arith, ap (λ (j : Job). j.request.terms.delay_bound) h)

-- the second job does not begin a word late
pub not_a_word_late : job_at two_jobs 1 ≡ job_at (0 ∷ two_jobs) 1 → ⊥
not_a_word_late h = omega (arith, ap (λ (j : Job). j.number) h)

-- ---- jobs admitted singly
abbrev pub said : Job → PathReply → JobReply
said j a = record { job = j; reply = a }

-- the reply to circuit 7 on net A
abbrev pub by_three : PathReply
by_three = granting One 6 15 three

abbrev pub two_replies : List JobReply
two_replies = said over (refuses 9) ∷ said fits by_three ∷ []

-- a refused job does not stop the next, and leaves the area to it; a job that comes again finds its number held
pub record AdmittedSingly : Type 0 where
  pub refused_first : singly fresh_a 16384 (over ∷ fits ∷ []) ≡ two_replies
  pub leaves : all_booked fresh_a two_replies ≡ held_a
  pub twice : singly fresh_a 16384 (fits ∷ fits ∷ []) ≡ said fits by_three ∷ said fits (refuses 11) ∷ []
  pub unchanged : all_booked held_a (said over (refuses 9) ∷ said fits (refuses 11) ∷ []) ≡ held_a
  pub none : singly fresh_a 16384 [] ≡ []

pub admitted_singly : AdmittedSingly
unfolding singly all_booked admission booked fresh_a held_a table_in circuit_of outcome search tried solve solve_in answer_in path_in ebf rounds round column offered relaxed improved initialised filled cell cells traced step_back place_back noted follow distance layer spread problem_one problem_two scaled iter first
admitted_singly = record { refused_first = refl; leaves = refl; twice = refl; unchanged = refl; none = refl }

pub not_stopped : singly fresh_a 16384 (over ∷ fits ∷ []) ≡ said over (refuses 9) ∷ [] → ⊥
not_stopped h = omega (arith, ap (λ (l : List JobReply). length l) (sym admitted_singly.refused_first), ap (λ (l : List JobReply). length l) h)

-- the area that they leave is not the one before them
pub not_unbooked : all_booked fresh_a two_replies ≡ fresh_a → ⊥
unfolding all_booked booked fresh_a
not_unbooked h = let same = ap (λ (w : List ℕ). get_or w 2 0) h in omega (arith, same)

-- ---- the words that answer a job
pub record AnswerWords : Type 0 where
  pub refusal : reply_words (refuses 9) ≡ 9 ∷ replicate 35 0
  pub grant : reply_words by_three ≡ 0 ∷ 1 ∷ 6 ∷ 15 ∷ 3 ∷ 0 ∷ 1 ∷ 2 ∷ replicate 28 0
  pub second_problem : reply_words (granting Two 6 15 three) ≡ 0 ∷ 2 ∷ 6 ∷ 15 ∷ 3 ∷ 0 ∷ 1 ∷ 2 ∷ replicate 28 0
  pub head_refusal : head_words (refuses 9) ≡ 9 ∷ 0 ∷ 0 ∷ 0 ∷ 0 ∷ []
  pub of_job : job_answer (said over (refuses 9)) ≡ reply_words (refuses 9)
  pub long : length (reply_words by_three) ≡ 36
  pub used_refusal : used_words (refuses 9) ≡ 1
  pub used_grant : used_words by_three ≡ 8
  pub both : job_answers two_replies ≡ reply_words (refuses 9) ++ reply_words by_three
  pub none : job_answers [] ≡ []

pub answer_words : AnswerWords
unfolding path_after job_answers
answer_words =
    record {
      refusal = refl;
      grant = refl;
      second_problem = refl;
      head_refusal = refl;
      of_job = refl;
      long = refl;
      used_refusal = refl;
      used_grant = refl;
      both = refl;
      none = refl;
    }

-- a grant does not begin with its problem, and a refusal says no problem
pub grant_begins_with_0 : get_or (reply_words by_three) 0 0 ≡ 1 → ⊥
grant_begins_with_0 h = omega (arith, h)

pub refusal_without_problem : get_or (reply_words (refuses 9)) 1 0 ≡ 1 → ⊥
refusal_without_problem h = omega (arith, h)

-- ---- the answer buffer: words past the last job's keep theirs, and a refused call changes none
abbrev pub lent : List ℕ
lent = replicate 75 5

abbrev pub written : List ℕ
written = reply_words (refuses 9) ++ reply_words by_three ++ replicate 3 5

pub record Answered : Type 0 where
  pub two : jobs_answered (grants two_replies) lent ≡ written
  pub one : jobs_answered (grants (said over (refuses 9) ∷ [])) lent ≡ (9 ∷ replicate 35 0) ++ replicate 39 5
  pub none : jobs_answered (grants []) lent ≡ lent
  pub call_refused : jobs_answered (refuses 23) lent ≡ lent

pub answered : Answered
unfolding path_after jobs_answered
answered = record { two = refl; one = refl; none = refl; call_refused = refl }

pub past_kept : get_or (jobs_answered (grants two_replies) lent) 72 0 ≡ 0 → ⊥
unfolding path_after jobs_answered
past_kept h = omega (arith, h)

-- ---- the call: a refusal for each check, of which the later ones would refuse too, and granted calls
pub record JobCalls : Type 0 where
  pub five : admit_jobs (two_a 8 11) 16383 (replicate 8 0) 0 ≡ refuses 5
  pub six : admit_jobs fresh_a 16383 (replicate 8 0) 0 ≡ refuses 6
  pub remainder : admit_jobs fresh_a 16384 (replicate 8 0) 0 ≡ refuses 23
  pub remainder_longer : admit_jobs fresh_a 16384 (replicate 8 0) 75 ≡ refuses 23
  pub long : admit_jobs fresh_a 16384 (replicate 455 0) 2339 ≡ refuses 23
  pub twenty_four : admit_jobs fresh_a 16384 two_jobs 71 ≡ refuses 24
  pub granted : admit_jobs fresh_a 16384 two_jobs 72 ≡ grants two_replies
  pub longer : admit_jobs fresh_a 16384 two_jobs 75 ≡ grants two_replies
  pub none : admit_jobs fresh_a 16384 [] 0 ≡ grants []
  -- what the checks past that of the area say alone
  pub six_checked : jobs_checked 16383 (replicate 8 0) 0 ≡ refuses 6
  pub remainder_checked : jobs_checked 16384 (replicate 8 0) 0 ≡ refuses 23
  pub short_checked : jobs_checked 16384 two_jobs 71 ≡ refuses 24
  pub two_checked : jobs_checked 16384 two_jobs 72 ≡ grants 2
  -- the area after
  pub leaves : jobs_booked fresh_a (grants two_replies) ≡ held_a
  pub refused_leaves : jobs_booked held_a (refuses 24) ≡ held_a

pub job_calls : JobCalls
unfolding admit_jobs jobs_booked admission booked fresh_a held_a two_a table_in circuit_of outcome search tried solve solve_in answer_in path_in ebf rounds round column offered relaxed improved initialised filled cell cells traced step_back place_back noted follow distance layer spread problem_one problem_two scaled iter first
job_calls =
    record {
      five = refl;
      six = refl;
      remainder = refl;
      remainder_longer = refl;
      long = refl;
      twenty_four = refl;
      granted = refl;
      longer = refl;
      none = refl;
      six_checked = refl;
      remainder_checked = refl;
      short_checked = refl;
      two_checked = refl;
      leaves = refl;
      refused_leaves = refl;
    }

-- ---- one reply for each job
pub one_for_each : OneForEach two_jobs two_replies
one_for_each = refl

pub fewer_replies : OneForEach two_jobs (said over (refuses 9) ∷ []) → ⊥
fewer_replies h = omega (arith, ap (λ (l : List Job). length l) h)

pub turned_replies : OneForEach two_jobs (said fits by_three ∷ said over (refuses 9) ∷ []) → ⊥
turned_replies h = omega (arith, ap (λ (l : List Job). get_or (map (λ (j : Job). j.number) l) 0 0) h)

-- ---- admissions one after another
pub two_singly : Singly fresh_a 16384 two_replies held_a
two_singly =
    subst (λ (v : List ℕ). Singly fresh_a 16384 two_replies v) admitted_singly.leaves
    (subst (λ (rs : List JobReply). Singly fresh_a 16384 rs (all_booked fresh_a rs)) admitted_singly.refused_first
    (singly_means fresh_a 16384 (over ∷ fits ∷ [])))

-- no job leaves another area, nor does one that is refused
fresh_held : held_a ≡ fresh_a → ⊥
unfolding fresh_a held_a
fresh_held e = let same = ap (λ (w : List ℕ). get_or w 2 0) e in omega (arith, same)

pub none_moves : Singly fresh_a 16384 [] held_a → ⊥
none_moves h = fresh_held h

pub refused_moves : Singly fresh_a 16384 (said over (refuses 9) ∷ []) held_a → ⊥
refused_moves h = fresh_held (h.1.2 ∙ h.1.1)

-- the rules that an admission of a job on net A goes by
abbrev rules_of : Job → List Rule
rules_of j = quote_rules fresh_a 16384 31 j.request ++ number_rules (books_in fresh_a) j.number ++ search_rules (net_for fresh_a j.request) j.request

fits_passes : Passes (rules_of fits)
fits_passes = (subst (Admitted fresh_a 16384 31 7 fits.request) admissions.granted (admission_means fresh_a 16384 31 fits.request 7)).0

over_nine : FirstApplies (rules_of over) 9
unfolding singly
over_nine =
    subst (Admitted fresh_a 16384 31 9 over.request) (ap first_reply admitted_singly.refused_first) (admission_means fresh_a 16384 31 over.request 9)
  where
    first_reply : List JobReply → PathReply
    first_reply [] = refuses 0
    first_reply (a ∷ l) = a.reply

-- a job that is granted where it comes is not refused, with whatever number, and none is granted that is refused there
pub wrongly_refused : (k : ℕ) (w' : List ℕ) → Singly fresh_a 16384 (said fits (refuses k) ∷ []) w' → ⊥
wrongly_refused k w' h = none_first (rules_of fits) k fits_passes h.0

pub wrongly_granted : (g : PathGrant) (w' : List ℕ) → Singly fresh_a 16384 (said over (grants g) ∷ []) w' → ⊥
wrongly_granted g w' h = none_first (rules_of over) 9 h.0.0 over_nine

pub another_number : (w' : List ℕ) → Singly fresh_a 16384 (said over (refuses 10) ∷ []) w' → ⊥
another_number w' h = omega (arith, one_first (rules_of over) 10 9 h.0 over_nine)

-- where circuit 7 has been put among the circuits of net A it is held
held_placed : (p : List ℕ) → holds (placed (circuit_for 7 4 p) (station fresh_a).held) 7 ≡ true
unfolding fresh_a station table_in circuit_of
held_placed p = refl

-- the second of two jobs is judged on the area that the first left: circuit 7 is held there
pub second_by_first_area : (g h : PathGrant) (w' : List ℕ) → Singly fresh_a 16384 (said fits (grants g) ∷ said fits (grants h) ∷ []) w' → ⊥
unfolding books
second_by_first_area g h w' two = two.1.2.0.0.1.1.1.1.0 (λ fit. true≢false (sym held ∙ fit.new))
  where
    held : holds (station two.1.0).held 7 ≡ true
    held = rw two.1.1.holds (held_placed g.path)

-- ---- the checks that the call leaves out for each job
pub two_left_out : LeftOut fresh_a 16384 (singly fresh_a 16384 (over ∷ fits ∷ []))
two_left_out = left_out fresh_a 16384 (over ∷ fits ∷ []) fresh_formed (omega arith)

-- not on an area that is not well formed, nor with too little work memory
pub unformed_not_left_out : (a : PathReply) → LeftOut (two_a 8 11) 16384 (said fits a ∷ []) → ⊥
unformed_not_left_out a h = h.0.0 over_unformed

pub short_not_left_out : (a : PathReply) → LeftOut fresh_a 16383 (said fits a ∷ []) → ⊥
short_not_left_out a h = h.0.1.0 (omega arith)

-- and the free units that it goes on with: of each link of a well-formed area, those that a granted path took subtracted
pub record FreeUnits : Type 0 where
  pub at_first : free_in fresh_a 0 ≡ 10
  pub after_seven : free_in held_a 0 ≡ 6
  pub link_3 : free_in held_a 3 ≡ 10
  pub unformed : free_in (two_a 8 11) 0 ≡ 0
  pub taken_by_seven : taken 4 three (replicate 4 10) ≡ 6 ∷ 6 ∷ 6 ∷ 10 ∷ []
  pub taken_by_none : taken 4 [] (replicate 4 10) ≡ replicate 4 10

pub free_units : FreeUnits
unfolding free_in fresh_a held_a two_a table_in circuit_of taken
free_units =
    record { at_first = refl; after_seven = refl; link_3 = refl; unformed = refl; taken_by_seven = refl; taken_by_none = refl }

pub last_link_too : taken 4 three (replicate 4 10) ≡ 6 ∷ 6 ∷ 10 ∷ 10 ∷ [] → ⊥
unfolding taken
last_link_too h = let same = ap (λ (l : List ℕ). get_or l 2 0) h in omega (arith, same)

pub other_links_keep : taken 4 three (replicate 4 10) ≡ replicate 4 6 → ⊥
unfolding taken
other_links_keep h = let same = ap (λ (l : List ℕ). get_or l 3 0) h in omega (arith, same)

-- ---- what the call means on net A
pub two_mean : JobsMean fresh_a 16384 two_jobs lent (grants 2) written held_a
two_mean =
    jobs_meant fresh_a 16384 two_jobs lent (grants 2) (ap count_of (sym job_calls.longer)) written
    (sym answered.two ∙ ap (λ (a : JobsReply). jobs_answered a lent) (sym job_calls.longer)) held_a
    (sym job_calls.leaves ∙ ap (jobs_booked fresh_a) (sym job_calls.longer))

pub eight_words_mean : JobsMean fresh_a 16384 (replicate 8 0) lent (refuses 23) lent fresh_a
unfolding jobs_booked jobs_answered
eight_words_mean =
    jobs_meant fresh_a 16384 (replicate 8 0) lent (refuses 23) (ap count_of (sym job_calls.remainder_longer)) lent
    (ap (λ (a : JobsReply). jobs_answered a lent) (sym job_calls.remainder_longer)) fresh_a
    (ap (jobs_booked fresh_a) (sym job_calls.remainder_longer))

-- two jobs are not answered as one, nor refused; and not granted where a word is wanting
module _ (l' w' : List ℕ) where
  pub not_one : JobsMean fresh_a 16384 two_jobs lent (grants 1) l' w' → ⊥
  not_one h = omega (arith, jobs_counted fresh_a 16384 two_jobs lent l' w' 1 h)

  pub not_refused : (k : ℕ) → JobsMean fresh_a 16384 two_jobs lent (refuses k) l' w' → ⊥
  not_refused k h = go (jobs_refused fresh_a 16384 two_jobs lent l' w' k h).0
    where
      go : FirstApplies (jobs_rules fresh_a 16384 two_jobs 75) k → ⊥
      go (inl f) = f.0 fresh_formed
      go (inr (_, inl f)) = omega (arith, f.0)
      go (inr (_, inr (_, inl f))) = f.0 two_whole
      go (inr (_, inr (_, inr (_, inl f)))) = omega (arith, f.0)
      go (inr (_, inr (_, inr (_, inr f)))) = absurd f.1

  pub short_not_granted : (n : ℕ) → JobsMean fresh_a 16384 two_jobs (replicate 71 5) (grants n) l' w' → ⊥
  short_not_granted n h = (jobs_granted fresh_a 16384 two_jobs (replicate 71 5) l' w' n h).1.0.1.1.1.0 (omega arith)

-- a refused call writes no answer and books nothing
pub refused_writes : JobsMean fresh_a 16384 (replicate 8 0) lent (refuses 23) written fresh_a → ⊥
refused_writes h =
    let same = ap (λ (l : List ℕ). get_or l 0 0) (jobs_refused fresh_a 16384 (replicate 8 0) lent written fresh_a 23 h).1 in
    omega (arith, same)

pub refused_books : JobsMean fresh_a 16384 (replicate 8 0) lent (refuses 23) lent held_a → ⊥
refused_books h = fresh_held (jobs_refused fresh_a 16384 (replicate 8 0) lent lent held_a 23 h).2

-- the two jobs, whatever the words l', leave circuit 7 in the area: the first is refused, and the second granted
first_leaves : (a : PathReply) (v : List ℕ) → Admitted fresh_a 16384 31 9 over.request a → AreaBooked fresh_a 9 11 a v → v ≡ fresh_a
first_leaves (refuses k) v allowed area = area
first_leaves (grants g) v allowed area = absurd (none_first (rules_of over) 9 allowed.0 over_nine)

second_holds : (b : PathReply) (w' : List ℕ) → Admitted fresh_a 16384 31 7 fits.request b → AreaBooked fresh_a 7 4 b w' → holds (station w').held 7 ≡ true
second_holds (refuses k) w' allowed area = absurd (none_first (rules_of fits) k fits_passes allowed)
second_holds (grants g) w' allowed area = rw area.holds (held_placed g.path)

module _ (w' : List ℕ) where
  both_hold : (rs : List JobReply) → map (λ (a : JobReply). a.job) rs ≡ over ∷ fits ∷ [] → Singly fresh_a 16384 rs w'
      → holds (station w').held 7 ≡ true
  both_hold [] e s = absurd (omega (arith, ap (λ (l : List Job). length l) e))
  both_hold (a ∷ []) e s = absurd (omega (arith, ap (λ (l : List Job). length l) e))
  both_hold (a ∷ b ∷ c ∷ rs) e s = absurd (omega (arith, ap (λ (l : List Job). length l) e))
  both_hold (a ∷ b ∷ []) e s =
      let t = two_admitted fresh_a 16384 two_jobs lent lent w' a b s in
      let is_over = head-eq_of_cons-eq e in
      let is_fits = head-eq_of_cons-eq (tail-eq_of_cons-eq e) in
      let left =
      first_leaves a.reply t.0 (subst (λ (j : Job). Admitted fresh_a 16384 31 j.number j.request a.reply) is_over t.1)
      (subst (λ (j : Job). AreaBooked fresh_a j.number j.request.terms.units a.reply t.0) is_over t.2) in
      second_holds b.reply w'
      (subst (λ (j : Job). Admitted fresh_a 16384 31 j.number j.request b.reply) is_fits
      (subst (λ (v : List ℕ). Admitted v 16384 31 b.job.number b.job.request b.reply) left t.3))
      (subst (λ (j : Job). AreaBooked fresh_a j.number j.request.terms.units b.reply w') is_fits
      (subst (λ (v : List ℕ). AreaBooked v b.job.number b.job.request.terms.units b.reply w') left t.4))

  pub circuit_held : (l' : List ℕ) → JobsMean fresh_a 16384 two_jobs lent (grants 2) l' w' → holds (station w').held 7 ≡ true
  circuit_held l' h =
      let given = jobs_granted fresh_a 16384 two_jobs lent l' w' 2 h in
      both_hold given.0 given.1.1 given.1.4

-- so a call that books nothing is none of this
pub books_nothing : (l' : List ℕ) → JobsMean fresh_a 16384 two_jobs lent (grants 2) l' fresh_a → ⊥
unfolding fresh_a station table_in circuit_of
books_nothing l' h = true≢false (sym (circuit_held fresh_a l' h))
