-- The answers and the bookings that were calculated by hand are what the definitions give: computed from one area, and so
-- from any other, since by the theorem of the crate `ledger` it makes no difference what an area held before it was loaded.
-- Assumes nothing.
use Prim.Native.Nat.{ℕ, ◌≤◌}
use mathlib.Core.Path.{◌≡◌, refl, ap, ◌∙◌}
use mathlib.Core.Bool.{true, false}
use mathlib.Core.List.{List}
use native.Mathlib.Omega.{arith}
use lib.ListN.{length, length-replicate}
use Rattle.network.specs.Loops.{iter, first}
use Rattle.network.specs.Scale.{scaled}
use Rattle.network.specs.Cut.{noted, follow}
use Rattle.network.specs.Reduce.{problem_one, problem_two}
use Rattle.search.specs.ebf.Table.{cell, cells, filled, initialised, improved, relaxed, offered, column, round, rounds, ebf}
use Rattle.search.specs.ebf.Trace.{place_back, step_back, traced}
use Rattle.search.specs.ebf.Solve.{path_in, answer_in, solve_in, solve}
use Rattle.search.specs.Distance.{spread, layer, distance}
use Rattle.search.specs.Heuristic.{tried, search}
use Rattle.search.specs.Result.{outcome}
use Rattle.area.specs.Refusals.{grants}
use Rattle.area.specs.Layout.{area_words}
use Rattle.area.specs.Station.{table_in, circuit_of}
use Rattle.area.specs.Load.{load_answer, area_loaded}
use Rattle.rules.specs.Calls.{quote, admission, booked, release, cleared}
use Rattle.rules.specs.AdmitJobs.{singly, all_booked, job_answers, admit_jobs, jobs_booked, jobs_answered}
use Rattle.ledger.specs.History.{answers, path_given, jobs_given, bookings, remaining}
use Rattle.ledger.proofs.Striking.{none_struck, all_remain}
use Rattle.ledger.proofs.Demands.{third_demand}
use Rattle.cases.specs.Document01.{links_a, unheld, blank}
use Rattle.call_list.specs.Calls.{row_count, rows, calls}
use Rattle.call_list.specs.Answers.{expected, held}
use Rattle.call_list.proofs.Runs.{load_accepts, struck_calls, end_of, runs_agree}

-- ---- from an area of zeros
computed : (answers (area_loaded blank (unheld links_a)) (calls false) ≡ expected) × (bookings (end_of false blank) ≡ held)
unfolding calls rows path_given jobs_given area_loaded quote admission booked release cleared singly all_booked job_answers admit_jobs jobs_booked jobs_answered table_in circuit_of outcome search tried solve solve_in answer_in path_in ebf rounds round column offered relaxed improved initialised filled cell cells traced step_back place_back noted follow distance layer spread problem_one problem_two scaled iter first
computed = (refl, refl)

blank_accepted : load_answer blank (unheld links_a) ≡ grants tt
blank_accepted = load_accepts blank (omega (arith, length-replicate {A = ℕ} area_words 0))

-- ---- from any area that is long enough
module _ (w : List ℕ) (long : area_words ≤ length w) where
  same : (answers (area_loaded w (unheld links_a)) (calls false) ≡ remaining (none_struck (calls false)) (answers (area_loaded blank (unheld links_a)) (calls false)))
      × (bookings (end_of false w) ≡ bookings (end_of false blank))
  same =
      let both = (third_demand (unheld links_a) blank blank_accepted (calls false)).struck w (load_accepts w long) (calls false) (none_struck (calls false)) in
      (both.0, both.1)

  -- the first run
  pub answers_expected : answers (area_loaded w (unheld links_a)) (calls false) ≡ expected
  answers_expected = same.0 ∙ all_remain (area_loaded blank (unheld links_a)) (calls false) ∙ computed.0

  pub bookings_expected : bookings (end_of false w) ≡ held
  bookings_expected = same.1 ∙ computed.1

  -- the second run: of these answers those to the calls that remain, and the same bookings
  pub remaining_expected : answers (area_loaded w (unheld links_a)) (calls true) ≡ remaining (struck_calls 0 row_count) expected
  remaining_expected = (runs_agree w w long long).0 ∙ ap (remaining (struck_calls 0 row_count)) answers_expected

  pub same_expected : bookings (end_of true w) ≡ held
  same_expected = (runs_agree w w long long).1 ∙ bookings_expected
