-- What a call gives goes by its reply alone: the first l words of the path buffer are the granted path, and the first 36 words for
-- each job of the answer buffer are those that answer it, whatever the buffer held before.
-- Assumes nothing.
use Prim.Native.Nat.{ℕ, ◌*◌}
use mathlib.Core.Path.{◌≡◌, refl, sym, ap, ap₂, ◌∙◌}
use mathlib.Core.List.{List, [], ◌∷◌, ◌++◌, map}
use lib.ListN.{length, take, drop}
use lib.Seq.{take-append_seam}
use Rattle.area.specs.Refusals.{refuses, grants}
use Rattle.area.specs.Reads.{count_of}
use Rattle.rules.specs.Replies.{PathReply, answer_of, path_of}
use Rattle.rules.specs.Jobs.{jobs_in}
use Rattle.rules.specs.AdmitJobs.{answer_words, JobsReply, job_answers, admit_jobs}
use Rattle.rules.proofs.Jobs.{answers_long, jobs_granted}
use Rattle.ledger.specs.Entries.{quoting, admitting, releasing, admitting_jobs}
use Rattle.ledger.specs.History.{Lending, measured, of_request, of_jobs, path_given, jobs_given, words_of_jobs, given_to, given_by, Event, reply_to, area_after, calls_made, answers}

-- the first l words are the granted path, l being the number of links that is answered
path_given_lem : (path : List ℕ) (a : PathReply) → path_given path a ≡ of_request (answer_of a) (path_of a)
unfolding path_given
path_given_lem path (refuses k) = refl
path_given_lem path (grants g) = ap (of_request (answer_of (grants g))) (take-append_seam g.path (drop (length g.path) path))

-- likewise those that answer the jobs, of which each has 36
jobs_given_lem : (w : List ℕ) (work : ℕ) (jobs buffer : List ℕ) (a : JobsReply) → admit_jobs w work jobs (length buffer) ≡ a
    → jobs_given buffer a ≡ of_jobs (count_of a) (words_of_jobs a)
unfolding jobs_given
jobs_given_lem w work jobs buffer (refuses k) e = refl
jobs_given_lem w work jobs buffer (grants rs) e =
    let long : length (job_answers rs) ≡ answer_words * length rs =
    rw (jobs_granted w work jobs (length buffer) rs e).0 (answers_long w work (jobs_in jobs)) in
    ap (of_jobs (grants (length rs)))
    (ap (λ (n : ℕ). take n (job_answers rs ++ drop (answer_words * length rs) buffer)) (sym long)
    ∙ take-append_seam (job_answers rs) (drop (answer_words * length rs) buffer))

pub given_is : (w : List ℕ) (c : Lending) → given_to w c ≡ given_by (measured c) (reply_to w (measured c))
given_is w (quoting work path r) = path_given_lem path (reply_to w (measured (quoting work path r)))
given_is w (admitting work path c r) = path_given_lem path (reply_to w (measured (admitting work path c r)))
given_is w (releasing c) = refl
given_is w (admitting_jobs work jobs buffer) = jobs_given_lem w (length work) jobs buffer (admit_jobs w (length work) jobs (length buffer)) refl

-- each answer of a list is what its reply says
pub answers_given : (w : List ℕ) (cs : List Lending)
    → answers w cs ≡ map (λ (e : Event). given_by e.call e.reply) (calls_made w cs)
answers_given w [] = refl
answers_given w (c ∷ cs) = ap₂ ◌∷◌ (given_is w c) (answers_given (area_after w (measured c)) cs)
