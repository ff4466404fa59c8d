-- One call beside the ledger: where the area's circuits are the ledger's entries by rising number, every event of the call is what
-- the ledger says at its place, and after the last of them the circuits are the entries again. Each job of a granted call for all
-- jobs is an admission on the area that the job before left.
-- Assumes nothing.
use Prim.Native.Nat.{ℕ}
use mathlib.Core.Path.{◌≡◌, refl, ap, ◌∙◌, subst}
use mathlib.Core.List.{List, [], ◌∷◌, map}
use mathlib.Core.Option.{Option, none, some}
use Rattle.area.specs.Station.{Circuit, Station, station}
use Rattle.area.specs.Books.{Books, numbers, books}
use Rattle.area.specs.Order.{Rising, by_number}
use Rattle.area.specs.Formed.{WellFormed}
use Rattle.area.specs.Refusals.{refuses, grants}
use Rattle.area.proofs.Order.{books_by_number, without_by_number}
use Rattle.rules.specs.declared.Job.{Job}
use Rattle.rules.specs.Jobs.{jobs_in}
use Rattle.rules.specs.AdmitJobs.{JobsReply, admit_job, job_booked, singly, all_booked, admit_jobs, jobs_booked}
use Rattle.rules.proofs.Jobs.{jobs_granted}
use Rattle.ledger.specs.Entries.{Call, quoting, admitting, releasing, admitting_jobs, told, Ledger, moved}
use Rattle.ledger.specs.History.{reply_to, area_after, event, job_call, job_event, jobs_admitted, events, arranged, after, at_end}
use Rattle.ledger.specs.Sentences.{AtEvery}
use Rattle.ledger.proofs.Steps.{Says, says, station_moved, Single, moves, keeps}

-- ---- the entries by rising number
-- they move as the entries do
moved_arranged : (q : Call ℕ) (path : Option (List ℕ)) (l : Ledger) → Rising (numbers (by_number l.held))
    → station_moved (arranged l) q path ≡ arranged (moved l q path)
moved_arranged (quoting work path r) granted l rising = refl
moved_arranged (admitting work path c r) none l rising = refl
moved_arranged (admitting work path c r) (some p) l rising = refl
moved_arranged (releasing c) granted l rising =
    ap (λ (held : List Circuit). record { table = l.table; held = held }) (without_by_number c l.held rising)
moved_arranged (admitting_jobs work jobs answers) granted l rising = refl

-- ---- the ledger beside the area
-- an area whose circuits are the ledger's entries by rising number
abbrev pub Follows : List ℕ → Ledger → Type 0
Follows w l = station w ≡ arranged l

-- what the ledger says goes by its books, which no order changes
books_follow : (w : List ℕ) (l : Ledger) → Follows w l → books (station w) ≡ books l
books_follow w l follows = ap books follows ∙ books_by_number l.table l.held

module _ (w : List ℕ) (l : Ledger) (formed : WellFormed w) (follows : Follows w l) where
  -- what the ledger says of a call itself
  one_said : (q : Call ℕ) → Says (books l) q (reply_to w q)
  one_said q = subst (λ (o : Books). Says o q (reply_to w q)) (books_follow w l follows) (says w formed q)

  -- a call for one job or none keeps it so
  one_follows : (q : Call ℕ) → Single q → Follows (area_after w q) (after l (event w q))
  one_follows q one =
      moves w formed q one
      ∙ ap (λ (s : Station). station_moved s q (told q (reply_to w q))) follows
      ∙ moved_arranged q (told q (reply_to w q)) l (subst (λ (s : Station). Rising (numbers s.held)) follows formed.sound.rising)

-- ---- jobs, each an admission
pub jobs_said : (w : List ℕ) (l : Ledger) → WellFormed w → Follows w l → (work : ℕ) (js : List Job)
    → AtEvery Says l (map (job_event work) (singly w work js))
unfolding singly
jobs_said w l formed follows work [] = tt
jobs_said w l formed follows work (j ∷ js) = (
  one_said w l formed follows (job_call work j),
  jobs_said (job_booked w (admit_job w work j)) _ (keeps w formed (job_call work j)) (one_follows w l formed follows (job_call work j) tt) work js,
)

pub jobs_follow : (w : List ℕ) (l : Ledger) → WellFormed w → Follows w l → (work : ℕ) (js : List Job)
    → Follows (all_booked w (singly w work js)) (at_end l (map (job_event work) (singly w work js)))
unfolding singly all_booked
jobs_follow w l formed follows work [] = follows
jobs_follow w l formed follows work (j ∷ js) =
    jobs_follow (job_booked w (admit_job w work j)) _ (keeps w formed (job_call work j)) (one_follows w l formed follows (job_call work j) tt) work js

-- ---- any call
module _ (w : List ℕ) (l : Ledger) (formed : WellFormed w) (follows : Follows w l) where
  admitted_said : (q : Call ℕ) → AtEvery Says (after l (event w q)) (jobs_admitted q (reply_to w q))
  admitted_said (quoting work path r) = tt
  admitted_said (admitting work path c r) = tt
  admitted_said (releasing c) = tt
  admitted_said (admitting_jobs work jobs answers) = go (admit_jobs w work jobs answers) refl
    where
      go : (a : JobsReply) → admit_jobs w work jobs answers ≡ a → AtEvery Says l (jobs_admitted (admitting_jobs work jobs answers) a)
      go (refuses k) e = tt
      go (grants rs) e = rw (jobs_granted w work jobs answers rs e).0 (jobs_said w l formed follows work (jobs_in jobs))

  pub call_said : (q : Call ℕ) → AtEvery Says l (events w q)
  call_said q = (one_said w l formed follows q, admitted_said q)

  pub call_follows : (q : Call ℕ) → Follows (area_after w q) (at_end l (events w q))
  unfolding jobs_booked
  call_follows (quoting work path r) = one_follows w l formed follows (quoting work path r) tt
  call_follows (admitting work path c r) = one_follows w l formed follows (admitting work path c r) tt
  call_follows (releasing c) = one_follows w l formed follows (releasing c) tt
  call_follows (admitting_jobs work jobs answers) = go (admit_jobs w work jobs answers) refl
    where
      go : (a : JobsReply) → admit_jobs w work jobs answers ≡ a
          → Follows (jobs_booked w a) (at_end l (jobs_admitted (admitting_jobs work jobs answers) a))
      go (refuses k) e = follows
      go (grants rs) e = rw (jobs_granted w work jobs answers rs e).0 (jobs_follow w l formed follows work (jobs_in jobs))
