-- Two well-formed areas with the same table and circuits: every call with the same numbers and lengths has the same reply on both,
-- and leaves them so. A reply goes by the books and the lengths alone.
-- Assumes nothing.
use Prim.Native.Nat.{ℕ}
use mathlib.Core.Path.{◌≡◌, refl, sym, ap, ap₂, ◌∙◌, subst}
use mathlib.Core.List.{List, [], ◌∷◌}
use Rattle.area.specs.Station.{Station, station}
use Rattle.area.specs.Books.{books}
use Rattle.area.specs.Formed.{WellFormed, well_formed}
use Rattle.area.specs.Refusals.{refuses, grants}
use Rattle.area.proofs.Formed.{formed_test}
use Rattle.rules.specs.declared.Job.{Job}
use Rattle.rules.specs.Jobs.{jobs_in}
use Rattle.rules.specs.AdmitJobs.{JobReply, JobsReply, admit_job, job_booked, singly, all_booked, admit_jobs, jobs_booked}
use Rattle.rules.specs.Meaning.{books_in}
use Rattle.rules.proofs.Depends.{quote_depends, admission_depends, release_depends}
use Rattle.rules.proofs.Jobs.{jobs_granted}
use Rattle.ledger.specs.Entries.{Call, quoting, admitting, releasing, admitting_jobs, ReplyTo, told}
use Rattle.ledger.specs.History.{reply_to, area_after, job_call}
use Rattle.ledger.proofs.Steps.{station_moved, Single, moves, keeps}

pub record Alike (w v : List ℕ) : Type 0 where
  pub first : WellFormed w
  pub second : WellFormed v
  pub same : station w ≡ station v

module _ (w v : List ℕ) (t : Alike w v) where
  formed_alike : well_formed w ≡ well_formed v
  formed_alike = formed_test w t.first ∙ sym (formed_test v t.second)

  books_alike : books_in w ≡ books_in v
  books_alike = ap books t.same

  -- ---- a call for one job or none
  one_alike : (q : Call ℕ) → Single q → reply_to w q ≡ reply_to v q
  one_alike (quoting work path r) one = quote_depends w v work path r formed_alike books_alike
  one_alike (admitting work path c r) one = admission_depends w v work path c r formed_alike books_alike
  one_alike (releasing c) one = release_depends w v c formed_alike books_alike
  one_alike (admitting_jobs work jobs answers) one = absurd one

  one_next : (q : Call ℕ) → Single q → Alike (area_after w q) (area_after v q)
  one_next q one =
      record {
        first = keeps w t.first q;
        second = keeps v t.second q;
        same =
            moves w t.first q one
            ∙ ap₂ (λ (s : Station) (a : ReplyTo q). station_moved s q (told q a)) t.same (one_alike q one)
            ∙ sym (moves v t.second q one);
      }

-- ---- jobs
singly_alike : (w v : List ℕ) → Alike w v → (work : ℕ) (js : List Job) → singly w work js ≡ singly v work js
unfolding singly
singly_alike w v t work [] = refl
singly_alike w v t work (j ∷ js) =
    ap₂ (λ (a : ReplyTo (job_call work j)) (l : List JobReply). record { job = j; reply = a } ∷ l) (one_alike w v t (job_call work j) tt)
    (singly_alike (job_booked w (admit_job w work j)) (job_booked v (admit_job v work j)) (one_next w v t (job_call work j) tt) work js)

booked_alike : (w v : List ℕ) → Alike w v → (work : ℕ) (js : List Job)
    → Alike (all_booked w (singly w work js)) (all_booked v (singly v work js))
unfolding singly all_booked
booked_alike w v t work [] = t
booked_alike w v t work (j ∷ js) =
    booked_alike (job_booked w (admit_job w work j)) (job_booked v (admit_job v work j)) (one_next w v t (job_call work j) tt) work js

-- ---- any call
module _ (w v : List ℕ) (t : Alike w v) where
  jobs_alike : (work : ℕ) (jobs : List ℕ) (answers : ℕ) → admit_jobs w work jobs answers ≡ admit_jobs v work jobs answers
  unfolding admit_jobs
  jobs_alike work jobs answers =
      rw (formed_alike w v t, singly_alike w v t work (jobs_in jobs)) refl

  pub reply_alike : (q : Call ℕ) → reply_to w q ≡ reply_to v q
  reply_alike (quoting work path r) = one_alike w v t (quoting work path r) tt
  reply_alike (admitting work path c r) = one_alike w v t (admitting work path c r) tt
  reply_alike (releasing c) = one_alike w v t (releasing c) tt
  reply_alike (admitting_jobs work jobs answers) = jobs_alike work jobs answers

  pub next_alike : (q : Call ℕ) → Alike (area_after w q) (area_after v q)
  unfolding jobs_booked
  next_alike (quoting work path r) = t
  next_alike (admitting work path c r) = one_next w v t (admitting work path c r) tt
  next_alike (releasing c) = one_next w v t (releasing c) tt
  next_alike (admitting_jobs work jobs answers) = go (admit_jobs w work jobs answers) refl
    where
      go : (a : JobsReply) → admit_jobs w work jobs answers ≡ a → Alike (jobs_booked w a) (jobs_booked v (admit_jobs v work jobs answers))
      go (refuses k) e = rw (← jobs_alike work jobs answers, e) t
      go (grants rs) e = rw (← jobs_alike work jobs answers, e)
          (rw (jobs_granted w work jobs answers rs e).0
          (subst (λ (l : List JobReply). Alike (all_booked w (singly w work (jobs_in jobs))) (all_booked v l)) (sym (singly_alike w v t work (jobs_in jobs)))
          (booked_alike w v t work (jobs_in jobs))))
