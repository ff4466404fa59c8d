-- Refusal 12: from a loaded area, admissions of the circuits 1 to 64 are all granted, and one more is refused with 12, by itself and
-- as a job.
-- To compute 64 admissions takes minutes; so each is shown to be granted by what the area holds before it: one unit of
-- the only link for each circuit.
-- Assumes nothing.
use Prim.Native.Nat.{ℕ, zero, suc, ◌+◌, ◌-◌, ◌≤◌, ◌<◌}
use mathlib.Core.Path.{◌≡◌, refl, sym, ap, ◌∙◌, subst}
use mathlib.Core.Bool.{Bool, true, false}
use mathlib.Core.List.{List, [], ◌∷◌}
use native.Mathlib.Omega.{arith}
use borrow.Author.Tests.{le-leb, ne_eqb}
use lib.ListN.{length, get_or, replicate}
use Rattle.network.specs.Lists.{All}
use Rattle.network.specs.Loops.{iter, first}
use Rattle.network.specs.NodeSet.{member, inserted}
use Rattle.network.specs.Scale.{scaled}
use Rattle.network.specs.Cut.{noted, follow}
use Rattle.network.specs.Reduce.{problem_one, problem_two, granted, asking}
use Rattle.network.specs.declared.Request.{Request}
use Rattle.network.specs.Ranges.{in_range}
use Rattle.network.proofs.Ranges.{range_test}
use Rattle.search.specs.ebf.Table.{cell, cells, filled as filled_cells, initialised, improved, relaxed, offered, column, round, rounds, ebf}
use Rattle.search.specs.ebf.Trace.{place_back, step_back, traced}
use Rattle.search.specs.ebf.Solve.{path_in, answer_in, solve_in, solve}
use Rattle.search.specs.Distance.{spread, layer, distance}
use Rattle.search.specs.Heuristic.{tried, search}
use Rattle.search.specs.Result.{Alike, outcome}
use Rattle.network.specs.declared.answer.Reduction.TheVariants.{One}
use Rattle.area.specs.Layout.{least_number, most_number}
use Rattle.area.specs.Station.{Station, table_in, station}
use Rattle.area.specs.Books.{Books, usage, holds, books, net}
use Rattle.area.specs.Formed.{WellFormed, well_formed}
use Rattle.area.specs.Held.{place_of}
use Rattle.area.specs.Moves.{with_circuit}
use Rattle.area.proofs.Formed.{formed_test}
use Rattle.area.proofs.Added.{added_station}
use Rattle.area.proofs.Order.{books_by_number}
use Rattle.area.specs.Load.{table_of, load_answer, area_loaded}
use Rattle.area.proofs.Loads.{accepted_station, accepted_formed}
use Rattle.area.proofs.ReadCases.{links_few}
use Rattle.rules.specs.Requests.{request_fits}
use Rattle.area.specs.Refusals.{refuses, grants}
use Rattle.area.specs.Checks.{◌unless◌, checked}
use Rattle.rules.specs.Replies.{PathReply, granting, answer_of, path_after, reply_of}
use Rattle.rules.specs.Calls.{request_checked, number_checked, searched, admission, booked}
use Rattle.rules.specs.Meaning.{books_in}
use Rattle.rules.specs.Jobs.{jobs_in}
use Rattle.rules.specs.AdmitJobs.{singly, job_list_checks, admit_jobs}
use Rattle.rules.proofs.Facts.{count_is}
use Rattle.rules.proofs.Bookings.{admitted_formed}
use Rattle.rules.proofs.Depends.{choice_depends}
use Rattle.rules.proofs.CallCases.{request_passes, number_passes, fails_12, number_refused, admission_passed}
use Rattle.ledger.specs.Entries.{admitting}
use Rattle.ledger.specs.History.{Lending, Given, measured, of_request, path_given, reply_to, area_after, answers, area_at_end, arranged}
use Rattle.cases.specs.Document01.{blank}
use Rattle.instances.specs.Areas.{circuit, two_nodes, circuits_to, filled}

-- one unit over the only link
abbrev pub asked : Request
asked = asking 0 1 1 8 20 8

-- the reply to each of the admissions
abbrev pub by_link : PathReply
by_link = granting One 2 5 (0 ∷ [])

abbrev pub Granted : List Given → Type 0
Granted = All (λ g. g ≡ of_request (answer_of by_link) (0 ∷ []))

-- ---- the circuits 1 to k
circuits_length : (k : ℕ) → length (circuits_to k) ≡ k
circuits_length zero = refl
circuits_length (suc k) = ap suc (circuits_length k)

circuits_usage : (k : ℕ) → usage (circuits_to k) 0 ≡ k
circuits_usage zero = refl
circuits_usage (suc k) = omega (arith, circuits_usage k)

circuits_holds : (k c : ℕ) → k < c → holds (circuits_to k) c ≡ false
circuits_holds zero c low = refl
circuits_holds (suc k) c low = rw (ne_eqb c (suc k) λ e. omega (arith, e)) (circuits_holds k c (omega arith))

-- ---- what the area holds: by rising number the circuits that a ledger would have newest first
abbrev holding : ℕ → Station
holding k = record { table = table_of two_nodes; held = circuits_to k }

same_books : (k : ℕ) → books (arranged (holding k)) ≡ books (holding k)
same_books k = books_by_number (table_of two_nodes) (circuits_to k)

record Reached (k : ℕ) : Type 0 where
  is : station (filled k) ≡ arranged (holding k)
  formed : WellFormed (filled k)

pub link_accepted : load_answer blank two_nodes ≡ grants tt
unfolding load_answer
link_accepted = refl

at_first : Reached 0
unfolding filled
at_first =
    record { is = accepted_station blank two_nodes link_accepted; formed = accepted_formed blank two_nodes link_accepted }

-- a request sees the same network, as long as a unit is free
alike : (k : ℕ) → k < 65535 → Alike (net (books (holding k)) asked) (net (books (holding 0)) asked)
unfolding net books
alike k low =
    record {
      nodes = refl;
      links = refl;
      tail = λ i l. refl;
      head = λ i l. refl;
      usable = usable;
      delay = λ i l. refl;
      cost = λ i l. refl;
    }
  where
    usable : (i : ℕ) → i < 1 → (net (books (holding k)) asked).usable i ≡ (net (books (holding 0)) asked).usable i
    usable zero l = le-leb 1 (65535 - usage (circuits_to k) 0) (omega (arith, circuits_usage k))
    usable (suc i) l = absurd (omega (arith, l))

first_found : outcome (net (books (holding 0)) asked) asked ≡ granted One (0 ∷ [])
unfolding net books outcome search tried solve solve_in answer_in path_in ebf rounds round column offered relaxed improved initialised filled_cells cell cells traced step_back place_back noted follow distance layer spread problem_one problem_two scaled member inserted iter first
first_found = refl

found : (k : ℕ) → k < 65535 → searched (books (holding k)) asked ≡ by_link
unfolding searched books
found k low =
    ap (reply_of (net (books (holding k)) asked))
    (choice_depends (books (holding k)) (books (holding 0)) asked (alike k low) ∙ first_found)

-- the circuit after them has a number in its range
in_its_range : (k : ℕ) → k < 65535 → in_range least_number most_number (suc k) ≡ true
in_its_range k low = range_test least_number most_number (suc k) (omega arith) (omega arith)

-- ---- one admission more, whatever work memory and path buffer it is lent
module _ (work path : ℕ) (memory : 16384 ≤ work) (buffer : 31 ≤ path) (k : ℕ) (here : Reached k) where
  formed : well_formed (filled k) ≡ true
  formed = formed_test _ here.formed

  passed : grants tt ≡ request_checked (filled k) work path asked
  unfolding station table_in request_fits
  passed =
      let nodes = ap (λ (s : Station). s.table.nodes) here.is in
      request_passes (filled k) work path asked memory buffer (rw nodes refl)

  books_are : books_in (filled k) ≡ books (holding k)
  books_are = ap books here.is ∙ same_books k

  held : (books_in (filled k)).count ≡ k
  unfolding books
  held = ap (λ (o : Books). o.count) books_are ∙ circuits_length k

  new : holds (station (filled k)).held (suc k) ≡ false
  unfolding books
  new = ap (λ (o : Books). o.holds (suc k)) books_are ∙ circuits_holds k (suc k) (omega arith)

  next_granted : k < 64 → admission (filled k) work path (suc k) asked ≡ by_link
  next_granted low =
      let place_left : get_or (filled k) 2 0 < 64 = omega (arith, held, count_is (filled k)) in
      let number : grants (place_of (filled k) (suc k)) ≡ number_checked (filled k) (suc k) =
      number_passes (filled k) (suc k) (in_its_range k (omega arith)) new place_left _ refl in
      sym (admission_passed (filled k) work path (suc k) asked formed passed _ number)
      ∙ ap (λ (o : Books). searched o asked) books_are
      ∙ found k (omega arith)

  next_reached : k < 64 → Reached (suc k)
  unfolding filled booked
  next_reached low =
      record {
        is =
            added_station (filled k) (circuit (suc k) 1 (0 ∷ [])) here.formed.long
            (links_few (filled k) here.formed)
            (omega (arith, held, count_is (filled k))) (omega arith)
            ∙ ap (λ (s : Station). with_circuit s (circuit (suc k) 1 (0 ∷ []))) here.is;
        formed =
            subst (λ (a : PathReply). WellFormed (booked (filled k) (suc k) 1 a)) (next_granted low)
            (admitted_formed (filled k) work path (suc k) asked here.formed);
      }

  -- but where 64 are held it is refused
  sixty_fifth : k ≡ 64 → admission (filled k) work path (suc k) asked ≡ refuses 12
  sixty_fifth e =
      let full : 64 ≤ get_or (filled k) 2 0 = omega (arith, e, held, count_is (filled k)) in
      let number : refuses 12 ≡ number_checked (filled k) (suc k) =
      fails_12 (filled k) (suc k) (in_its_range k (omega (arith, e))) new full in
      sym (number_refused (filled k) work path (suc k) asked formed passed 12 number)

-- ---- the list of admissions, each lent the same words
module _ (work path : List ℕ) (memory : 16384 ≤ length work) (buffer : 31 ≤ length path) where
  abbrev pub call : ℕ → Lending
  call c = admitting work path c asked

  -- of n circuits after circuit k
  abbrev pub calls : ℕ → ℕ → List Lending
  calls k zero = []
  calls k (suc n) = call (suc k) ∷ calls (suc k) n

  after : (k : ℕ) → k < 64 → Reached k → area_after (filled k) (measured (call (suc k))) ≡ filled (suc k)
  unfolding filled booked
  after k low here =
      ap (booked (filled k) (suc k) 1) (next_granted (length work) (length path) memory buffer k here low)

  reached : (k : ℕ) → k ≤ 64 → Reached k
  reached zero low = at_first
  reached (suc k) low = next_reached (length work) (length path) memory buffer k (reached k (omega arith)) (omega arith)

  booked_all : (k n : ℕ) → k + n ≤ 64 → area_at_end (filled k) (calls k n) ≡ filled (k + n)
  booked_all k zero low = let e : k ≡ k + 0 = omega arith in ap filled e
  booked_all k (suc n) low =
      let e : suc k + n ≡ k + suc n = omega arith in
      ap (λ (w : List ℕ). area_at_end w (calls (suc k) n)) (after k (omega arith) (reached k (omega arith)))
      ∙ booked_all (suc k) n (omega arith)
      ∙ ap filled e

  granted_all : (k n : ℕ) → k + n ≤ 64 → Granted (answers (filled k) (calls k n))
  unfolding path_given answer_of path_after
  granted_all k zero low = tt
  granted_all k (suc n) low =
      let here : Reached k = reached k (omega arith) in (
        ap (path_given path) (next_granted (length work) (length path) memory buffer k here (omega arith)),
        subst (λ (w : List ℕ). Granted (answers w (calls (suc k) n))) (sym (after k (omega arith) here))
            (granted_all (suc k) n (omega arith)),
      )

  -- circuits 1 to 64 are granted
  pub all_granted : Granted (answers (area_loaded blank two_nodes) (calls 0 64))
  unfolding filled
  all_granted = granted_all 0 64 (omega arith)

  -- and after them circuit 65 is refused with 12
  pub then_twelve : reply_to (area_at_end (area_loaded blank two_nodes) (calls 0 64)) (measured (call 65)) ≡ refuses 12
  unfolding filled
  then_twelve =
      ap (λ (w : List ℕ). reply_to w (measured (call 65))) (booked_all 0 64 (omega arith))
      ∙ sixty_fifth (length work) (length path) memory buffer 64 (reached 64 (omega arith)) refl

-- so is the job of circuit 65 where jobs come in one call, which is granted
abbrev pub job : List ℕ
job = 65 ∷ 0 ∷ 1 ∷ 1 ∷ 8 ∷ 20 ∷ 8 ∷ []

pub job_twelve : admit_jobs (filled 64) 16384 job 36 ≡ grants (record { job = record { number = 65; request = asked }; reply = refuses 12 } ∷ [])
unfolding admit_jobs singly
job_twelve =
    let here : Reached 64 = reached (replicate 16384 0) (replicate 31 0) (omega arith) (omega arith) 64 (omega arith) in
    ap (λ (ok : Bool). checked refuses ((5 unless ok) ∷ job_list_checks 16384 job 36) (grants (singly (filled 64) 16384 (jobs_in job))))
    (formed_test _ here.formed)
    ∙ ap (λ (a : PathReply). grants (record { job = record { number = 65; request = asked }; reply = a } ∷ []))
    (sixty_fifth 16384 31 (omega arith) (omega arith) 64 here refl)
