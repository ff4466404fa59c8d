-- Every call grants or is refused with one of its numbers, and a refusal keeps the lent words: the first check that fails
-- has one of the checks' numbers, the first rule that applies one of the rules', and what a call leaves goes by the same
-- refusal as its answer.
-- Assumes nothing.
use Prim.Native.Nat.{ℕ, zero, suc}
use mathlib.Core.Path.{◌≡◌, refl, sym}
use mathlib.Core.Bool.{true, or-true}
use mathlib.Core.List.{List, [], ◌∷◌, ◌++◌, map}
use mathlib.Core.Logic.{inl, inr}
use native.Mathlib.Omega.{arith}
use lib.Dec.{eqb}
use lib.ListN.{length}
use borrow.Author.Tests.{eq-eqb}
use Rattle.network.specs.Lists.{memb}
use Rattle.network.proofs.Tests.{by_bool}
use Rattle.area.specs.Refusals.{Rule, ◌when◌, Reply, refuses, grants, Answered}
use Rattle.area.specs.Formed.{WellFormed}
use Rattle.area.specs.Checks.{Check, first_failing, unless_refused, checked}
use Rattle.area.specs.Load.{load_checks, loaded, load_answer, area_loaded}
use Rattle.area.specs.Reads.{count_of, list_checks, list_answer, listed, free_checks, free_answer}
use Rattle.area.proofs.Refusals.{numbers_of, first_among}
use Rattle.rules.specs.Replies.{PathGrant, PathReply, answer_of, path_after, ReleaseReply}
use Rattle.rules.specs.Calls as calls
use Rattle.rules.specs.AdmitJobs.{JobsReply, admit_jobs, jobs_booked, jobs_answered, jobs_rules, OneForEach}
use Rattle.rules.proofs.Jobs.{jobs_means}
use Rattle.rules.specs.Classes.{table_checks, class_checks, check_answer, class_answer}
use Rattle.rules.specs.Allowed.{number_rules, release_rules, search_rules}
use Rattle.rules.specs.Meaning.{books_in, quote_rules, net_for}
use Rattle.rules.proofs.Meaning.{quote_means, admission_means, release_means}
use Rattle.link_format.specs.Reading.{read_checks, read_answer, table_read}
use Rattle.ledger.specs.Demand.{Decided, FirstDemand}

-- ---- by checks
abbrev check_numbers : List Check → List ℕ
check_numbers cs = map (λ (c : Check). c.number) cs

failing_among : (cs : List Check) (k : ℕ) → first_failing cs ≡ suc k → memb (suc k) (check_numbers cs) ≡ true
failing_among [] k e = absurd (omega (arith, e))
failing_among (c ∷ cs) k e =
    by_bool c.passes
    (λ q. rw (failing_among cs k (rw q at e)) (or-true (eqb (suc k) c.number)))
    (λ q. rw (eq-eqb (suc k) c.number (sym (rw q at e))) refl)

-- a call that grants a past its checks, and leaves w as it was where one of them fails
by_checks : {A B : Type 0} (cs : List Check) (a : A) (w w' : B)
    → Decided (check_numbers cs) (checked (λ _. w) cs w' ≡ w) (checked refuses cs (grants a))
by_checks cs a w w' = go (first_failing cs) refl
  where
    go : (n : ℕ) → first_failing cs ≡ n → Decided (check_numbers cs) (unless_refused (λ _. w) w' n ≡ w) (unless_refused refuses (grants a) n)
    go zero e = inl (a, refl)
    go (suc k) e = inr (suc k, failing_among cs k e, refl, refl)

-- the same of a call that is lent nothing to write
without_words : {A : Type 0} (cs : List Check) (a : A) → Decided (check_numbers cs) (Unit {0}) (checked refuses cs (grants a))
without_words cs a = go (by_checks cs a [] [])
  where
    go : Decided (check_numbers cs) (◌≡◌ {A = List ℕ} (checked (λ _. []) cs []) []) (checked refuses cs (grants a))
        → Decided (check_numbers cs) (Unit {0}) (checked refuses cs (grants a))
    go (inl h) = inl h
    go (inr h) = inr (h.0, h.1, h.2, tt)

-- ---- by rules
-- a reply, where a refusal keeps what it leaves
replied : {A : Type 0} (G : A → Type 0) (rs : List Rule) (Kept : Reply A → Type 0) → ((k : ℕ) → Kept (refuses k))
    → (a : Reply A) → Answered G rs a
    → Decided (numbers_of rs) (Kept a) a
replied G rs Kept keeps (refuses k) h = inr (k, first_among rs k h, refl, keeps k)
replied G rs Kept keeps (grants b) h = inl (b, refl)

-- and what a request's reply says
by_rules : (G : PathGrant → Type 0) (rs : List Rule) (Kept : PathReply → Type 0) → ((k : ℕ) → Kept (refuses k))
    → (a : PathReply) → Answered G rs a
    → Decided (numbers_of rs) (Kept a) (answer_of a)
unfolding answer_of
by_rules G rs Kept keeps (refuses k) h = inr (k, first_among rs k h, refl, keeps k)
by_rules G rs Kept keeps (grants b) h = inl (_, refl)

-- and what the reply for all jobs says
jobs_decided : (w : List ℕ) (work : ℕ) (words l : List ℕ)
    → Decided (5 ∷ 6 ∷ 23 ∷ 24 ∷ []) ((jobs_booked w (admit_jobs w work words (length l)) ≡ w) × (jobs_answered (admit_jobs w work words (length l)) l ≡ l))
    (count_of (admit_jobs w work words (length l)))
unfolding jobs_booked jobs_answered
jobs_decided w work words l = go (admit_jobs w work words (length l)) (jobs_means w work words (length l))
  where
    go : (a : JobsReply) → Answered (OneForEach words) (jobs_rules w work words (length l)) a
        → Decided (5 ∷ 6 ∷ 23 ∷ 24 ∷ []) ((jobs_booked w a ≡ w) × (jobs_answered a l ≡ l)) (count_of a)
    go (refuses k) h = inr (k, first_among (jobs_rules w work words (length l)) k h, refl, (refl, refl))
    go (grants rs) h = inl (length rs, refl)

-- ---- the calls
pub every_call_decided : FirstDemand
unfolding load_answer area_loaded list_answer listed free_answer check_answer class_answer read_answer table_read path_after calls.booked calls.cleared
every_call_decided =
    record {
      load = λ w input.
          by_checks (load_checks w input) tt w (loaded w input);
      quote = λ w work l r.
          by_rules _ (quote_rules w work (length l) r ++ search_rules (net_for w r) r) (λ (a : PathReply). path_after a l ≡ l) (λ k. refl)
          (calls.quote w work (length l) r)
          (quote_means w work (length l) r);
      admission = λ w work l c r.
          by_rules _ (quote_rules w work (length l) r ++ number_rules (books_in w) c ++ search_rules (net_for w r) r)
          (λ (a : PathReply). (calls.booked w c r.terms.units a ≡ w) × (path_after a l ≡ l))
          (λ k. (refl, refl))
          (calls.admission w work (length l) c r)
          (admission_means w work (length l) r c);
      release = λ w c.
          replied _ ((5 when (WellFormed w → ⊥)) ∷ release_rules (books_in w) c) (λ (a : ReleaseReply). calls.cleared w c a ≡ w)
          (λ k. refl)
          (calls.release w c)
          (release_means w c);
      jobs = λ w work words l.
          jobs_decided w work words l;
      list = λ w l.
          by_checks (list_checks w (length l)) _ l _;
      free_units = λ w i.
          without_words (free_checks w i) _;
      check_classes = λ rows.
          without_words (table_checks rows) tt;
      class = λ rows k.
          without_words (class_checks rows k) _;
      link_file = λ f t.
          by_checks (read_checks f (length t)) _ t _;
    }
