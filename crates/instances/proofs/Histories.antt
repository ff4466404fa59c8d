-- A list of calls from a loaded area, in which the refusals 6, 7, 8, 9, 10, 11, 13, 23 and 24, grants of both problems, a
-- release and jobs in one call occur (12 stands in Full.antt); quotes that are struck from it; the bookings beside the ledger's
-- entries; and the admissions that jobs in one call are to the ledger.
-- Assumes nothing.
use Prim.Native.Nat.{ℕ}
use mathlib.Core.Path.{◌≡◌, refl, ap}
use mathlib.Core.List.{List, [], ◌∷◌}
use mathlib.Core.Logic.{inl, inr}
use native.Mathlib.Omega.{arith}
use lib.ListN.{length, get_or, replicate}
use Rattle.network.proofs.Tests.{zero_one}
use Rattle.network.specs.Loops.{iter, first}
use Rattle.network.specs.Scale.{scaled}
use Rattle.network.specs.Cut.{noted, follow}
use Rattle.network.specs.Reduce.{problem_one, problem_two}
use Rattle.search.specs.ebf.Table.{cell, cells, filled, initialised, improved, relaxed, offered, column, round, rounds, ebf}
use Rattle.search.specs.ebf.Trace.{place_back, step_back, traced}
use Rattle.search.specs.ebf.Solve.{path_in, answer_in, solve_in, solve}
use Rattle.search.specs.Distance.{spread, layer, distance}
use Rattle.search.specs.Heuristic.{tried, search}
use Rattle.search.specs.Result.{outcome}
use Rattle.area.specs.Refusals.{refuses, grants}
use Rattle.area.specs.Station.{held_words, table_in, circuit_of}
use Rattle.area.specs.Books.{Books}
use Rattle.area.specs.Load.{load_answer, area_loaded}
use Rattle.rules.specs.Calls.{quote, admission, booked, release, cleared}
use Rattle.rules.specs.Replies.{releases}
use Rattle.rules.specs.Meaning.{net_for}
use Rattle.rules.specs.AdmitJobs.{admit_jobs, jobs_booked}
use Rattle.ledger.specs.Entries.{Call, quoting, admitting, releasing, admitting_jobs, opened, Refuses, Grants}
use Rattle.ledger.specs.History.{Lending, path_given, jobs_given, Event, job_event, jobs_admitted, events, history, calls_made, answers, area_at_end, bookings, at_end, Struck, end, strike, keep, remaining}
use Rattle.ledger.specs.Sentences.{EachJob}
use Rattle.ledger.specs.Demand.{PathsGranted, ThirdDemand}
use Rattle.ledger.proofs.Demands.{third_demand, any_jobs}
use Rattle.cases.specs.Document01.{blank, links_a, unheld, m3, three}
use Rattle.instances.specs.Areas.{fresh_a, circuit}
use Rattle.instances.specs.Calls.{work, path, over_words, fits_words, two_jobs, opens, calls, expected, in_turn, two_calls, unquoted}
use Rattle.instances.proofs.Jobs.{two_whole, eight_not_whole, over, fits, said, by_three, two_replies, job_calls, fewer_replies}

-- ---- the third demand's premise is met, so it holds of the list
pub accepted : load_answer blank (unheld links_a) ≡ grants tt
unfolding load_answer
accepted = refl

pub demand_met : ThirdDemand blank (unheld links_a) calls
demand_met = third_demand (unheld links_a) blank accepted calls

-- ---- the answers to the list, and the bookings in the end
abbrev pub start : List ℕ
start = area_loaded blank (unheld links_a)

pub list_answers : (answers start calls ≡ expected)
    × (bookings (area_at_end start calls) ≡ circuit 7 4 three ∷ circuit 8 1 three ∷ [])
unfolding area_loaded path_given jobs_given admit_jobs jobs_booked quote admission booked release cleared table_in circuit_of outcome search tried solve solve_in answer_in path_in ebf rounds round column offered relaxed improved initialised filled cell cells traced step_back place_back noted follow distance layer spread problem_one problem_two scaled iter first
list_answers = (refl, refl)

-- ---- the bookings are the ledger's entries by rising number: these have the newest first
pub entries_booked : ((at_end (opened (unheld links_a)) (history start in_turn)).held ≡ circuit 7 4 three ∷ circuit 2 1 three ∷ [])
    × (bookings (area_at_end start in_turn) ≡ circuit 2 1 three ∷ circuit 7 4 three ∷ [])
unfolding area_loaded path_given quote admission booked release cleared table_in circuit_of outcome search tried solve solve_in answer_in path_in ebf rounds round column offered relaxed improved initialised filled cell cells traced step_back place_back noted follow distance layer spread problem_one problem_two scaled iter first
entries_booked = (refl, refl)

-- ---- quotes struck
-- six quotes are struck, and the calls that remain are lent other words
pub quotes_struck : Struck calls unquoted
quotes_struck =
    strike
    (strike
    (strike (keep refl (keep refl (strike (strike (keep refl (keep refl (keep refl (strike (keep refl (keep refl (keep refl end)))))))))))))

-- so the answers to these calls, and the bookings in the end with their words, are those of the whole list
pub struck_agree : (answers start unquoted ≡ remaining quotes_struck (answers start calls))
    × (bookings (area_at_end start unquoted) ≡ bookings (area_at_end start calls))
    × (held_words (area_at_end start unquoted) ≡ held_words (area_at_end start calls))
struck_agree = demand_met.struck blank accepted unquoted quotes_struck

-- an admission is never struck
kept : {c : ℕ} {ds : List Lending} → Struck (admitting (work 0) (path 0) c m3 ∷ []) ds → length ds ≡ 1
kept (keep e end) = refl

pub admission_stays : Struck (admitting (work 0) (path 0) 7 m3 ∷ []) [] → ⊥
admission_stays s = omega (arith, kept s)

-- and a call that remains keeps its numbers
pub number_stays : Struck (releasing 7 ∷ []) (releasing 8 ∷ []) → ⊥
number_stays (keep e end) = zero_one cc

-- ---- jobs in one call
-- a call for jobs is never struck, and one that remains keeps its jobs and the length of its answer buffer, whatever words are lent
jobs_kept : {ds : List Lending} → Struck (opens 0 two_jobs 72 ∷ []) ds → length ds ≡ 1
jobs_kept (keep e end) = refl

pub jobs_stay : Struck (opens 0 two_jobs 72 ∷ []) [] → ⊥
jobs_stay s = omega (arith, jobs_kept s)

pub words_may_differ : Struck (opens 0 two_jobs 72 ∷ []) (opens 1 two_jobs 72 ∷ [])
words_may_differ = keep refl end

-- of a call the length of its answer buffer, and of its first job the circuit number
abbrev answers_long : Call ℕ → ℕ
answers_long (quoting work path r) = 0
answers_long (admitting work path c r) = 0
answers_long (releasing c) = 0
answers_long (admitting_jobs work jobs n) = n

abbrev first_number : Call ℕ → ℕ
first_number (quoting work path r) = 0
first_number (admitting work path c r) = 0
first_number (releasing c) = 0
first_number (admitting_jobs work jobs n) = get_or jobs 0 0

pub length_stays : Struck (opens 0 two_jobs 72 ∷ []) (opens 0 two_jobs 73 ∷ []) → ⊥
length_stays (keep e end) = omega (arith, ap answers_long e)

pub jobs_words_stay : Struck (opens 0 over_words 36 ∷ []) (opens 0 fits_words 36 ∷ []) → ⊥
jobs_words_stay (keep e end) = omega (arith, ap first_number e)

-- ---- to the ledger a job is an admission, with work memory of the call's length and a path buffer of 31 words
abbrev opening : Call ℕ
opening = admitting_jobs 16384 two_jobs 72

abbrev over_event : Event
over_event = record { call = admitting 16384 31 9 over.request; reply = refuses 9 }

abbrev fits_event : Event
fits_event = record { call = admitting 16384 31 7 fits.request; reply = by_three }

pub record JobEvents : Type 0 where
  pub a_job : job_event 16384 (said over (refuses 9)) ≡ over_event
  pub both_jobs : jobs_admitted opening (grants two_replies) ≡ over_event ∷ fits_event ∷ []
  pub no_jobs : jobs_admitted (admitting_jobs 16384 [] 0) (grants []) ≡ []
  pub refused_call : jobs_admitted opening (refuses 24) ≡ []
  pub a_release : jobs_admitted (releasing 7) releases ≡ []

pub job_events : JobEvents
job_events = record { a_job = refl; both_jobs = refl; no_jobs = refl; refused_call = refl; a_release = refl }

-- not with a path buffer of another length, nor one admission for both jobs
pub not_of_32 : job_event 16384 (said over (refuses 9)) ≡ record { call = admitting 16384 32 9 over.request; reply = refuses 9 } → ⊥
not_of_32 h = omega (arith, ap (λ (e : Event). path_long e.call) h)
  where
    path_long : Call ℕ → ℕ
    path_long (quoting work path r) = path
    path_long (admitting work path c r) = path
    path_long (releasing c) = 0
    path_long (admitting_jobs work jobs n) = 0

pub not_one_for_both : jobs_admitted opening (grants two_replies) ≡ over_event ∷ [] → ⊥
not_one_for_both h = omega (arith, ap (λ (l : List Event). length l) h)

-- the events of a call: itself, and then its jobs. Of the list above each call is one, and the last gives two besides
pub record Events : Type 0 where
  pub with_its_jobs : events start opening ≡ record { call = opening; reply = grants two_replies } ∷ over_event ∷ fits_event ∷ []
  pub single : events start (releasing 7) ≡ record { call = releasing 7; reply = refuses 13 } ∷ []
  pub calls_alone : length (calls_made start calls) ≡ 14
  pub with_jobs : length (history start calls) ≡ 16
  -- the call itself adds no entry; its granted job does
  pub itself : at_end (opened (unheld links_a)) (record { call = opening; reply = grants two_replies } ∷ []) ≡ opened (unheld links_a)
  pub its_jobs : (at_end (opened (unheld links_a)) (history start (opens 0 two_jobs 72 ∷ []))).held ≡ circuit 7 4 three ∷ []
  -- and the area is that of the jobs as single calls
  pub as_singly : area_at_end start (opens 0 two_jobs 72 ∷ []) ≡ area_at_end start two_calls
  pub made_singly : history start two_calls ≡ over_event ∷ fits_event ∷ []

pub all_events : Events
unfolding area_loaded admit_jobs jobs_booked quote admission booked release cleared table_in circuit_of outcome search tried solve solve_in answer_in path_in ebf rounds round column offered relaxed improved initialised filled cell cells traced step_back place_back noted follow distance layer spread problem_one problem_two scaled iter first
all_events =
    record {
      with_its_jobs = refl;
      single = refl;
      calls_alone = refl;
      with_jobs = refl;
      itself = refl;
      its_jobs = refl;
      as_singly = refl;
      made_singly = refl;
    }

-- ---- the ledger's rules for the call, which go by the lengths that it is fed and by no entry
module _ (o : Books) where
  pub short_answers : Refuses o (admitting_jobs 16384 two_jobs 71) 24
  short_answers = inr (λ h. omega (arith, h), inr (λ h. h two_whole, inl (omega arith, refl)))

  pub enough_answers : (k : ℕ) → Refuses o (admitting_jobs 16384 two_jobs 72) k → ⊥
  enough_answers k (inl f) = omega (arith, f.0)
  enough_answers k (inr (_, inl f)) = f.0 two_whole
  enough_answers k (inr (_, inr (_, inl f))) = omega (arith, f.0)
  enough_answers k (inr (_, inr (_, inr f))) = absurd f.1

  pub eight_words : Refuses o (admitting_jobs 16384 (replicate 8 0) 0) 23
  eight_words = inr (λ h. omega (arith, h), inl (eight_not_whole, refl))

  pub short_work : Refuses o (admitting_jobs 16383 (replicate 8 0) 0) 6
  short_work = inl (omega arith, refl)

  -- what it grants is a reply for each job
  pub grants_two : Grants o opening two_replies
  grants_two = refl

  pub grants_not_one : Grants o opening (said over (refuses 9) ∷ []) → ⊥
  grants_not_one = fewer_replies

-- ---- what is said of each job, where it comes
pub each_path : EachJob (λ v r a. PathsGranted (net_for v r) r a) fresh_a two_replies
each_path = any_jobs fresh_a 16384 two_jobs 72 two_replies job_calls.granted

pub not_each_refused : EachJob (λ v r a. a ≡ refuses 9) fresh_a two_replies → ⊥
not_each_refused h = let said : by_three ≡ refuses 9 = h.1.0 in absurd (zero_one cc)
