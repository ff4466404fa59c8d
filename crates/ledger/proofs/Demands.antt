-- The three demands. The first on any words and numbers at all; the third, and beside it the second, for all numbers and every area
-- that Load accepts, and every list of admissions, releases, quotes and calls for all jobs, refused ones included, with work memory,
-- path buffer and answer buffer of any length and contents at each call. specs/Demand.antt says what is claimed.
-- Assumes nothing.
use Prim.Native.Nat.{ℕ}
use mathlib.Core.Path.{◌≡◌, sym, ap, ◌∙◌}
use mathlib.Core.List.{List, [], ◌∷◌, ◌++◌}
use mathlib.Core.Logic.{◌↔◌}
use Rattle.network.specs.declared.Request.{Request}
use Rattle.area.specs.Station.{Station, held_words}
use Rattle.area.specs.Books.{Books, path_delay}
use Rattle.area.specs.Formed.{WellFormed}
use Rattle.area.specs.Refusals.{Passes, IsRefused}
use Rattle.area.proofs.Order.{equal_same}
use Rattle.area.proofs.SameWords.{same_words}
use Rattle.area.specs.Refusals.{grants}
use Rattle.area.specs.Load.{LoadInput, load_answer, area_loaded}
use Rattle.area.proofs.Loads.{accepted_station, accepted_formed}
use Rattle.rules.specs.Replies.{PathGrant, PathReply}
use Rattle.rules.specs.Calls.{quote, admission}
use Rattle.rules.specs.declared.Job.{Job}
use Rattle.rules.specs.Jobs.{jobs_in}
use Rattle.rules.specs.AdmitJobs.{JobReply, admit_job, job_booked, singly, admit_jobs}
use Rattle.rules.proofs.Jobs.{jobs_granted}
use Rattle.network.specs.Limits.{path_words}
use Rattle.rules.specs.Allowed.{number_rules, search_rules}
use Rattle.rules.specs.Meaning.{books_in, net_for}
use Rattle.rules.proofs.Meaning.{quote_means, admission_means}
use Rattle.ledger.specs.Entries.{Call, ReplyTo, opened, checks}
use Rattle.ledger.specs.History.{Lending, history, bookings}
use Rattle.ledger.specs.Sentences.{AtRequest, OfRequest, Feasible, ZeroBound, EachJob}
use Rattle.ledger.specs.Demand.{FirstDemand, PathsGranted, Throughout, SecondDemand, ThirdDemand}
use Rattle.ledger.proofs.Decisions.{every_call_decided}
use Rattle.ledger.proofs.Steps.{Says}
use Rattle.ledger.proofs.Given.{answers_given}
use Rattle.ledger.proofs.Places.{refused_as, not_five, answered, exactly_refused, enough_granted, zero_refused, delay_granted, paths_granted, paths_past_five}
use Rattle.ledger.proofs.Follows.{Follows}
use Rattle.ledger.proofs.Alike.{Alike}
use Rattle.ledger.proofs.Histories.{followed, ends_follow, at_every, struck_answers, struck_ends}

-- ---- the first demand
pub first_demand : FirstDemand
first_demand = every_call_decided

module _ (input : LoadInput) where
  -- ---- an accepted load: the area holds nothing and the ledger opens with no entry, so any two such areas are alike
  module _ (w : List ℕ) (accepted : load_answer w input ≡ grants tt) where
    opens : Follows (area_loaded w input) (opened input)
    opens = accepted_station w input accepted

    formed : WellFormed (area_loaded w input)
    formed = accepted_formed w input accepted

    said : (cs : List Lending) → Throughout w input cs Says
    said cs = followed (area_loaded w input) (opened input) formed opens cs

    -- what follows from the ledger's word at one place holds throughout
    throughout : (P : Books → (q : Call ℕ) → ReplyTo q → Type 0) → ((o : Books) (q : Call ℕ) (a : ReplyTo q) → Says o q a → P o q a)
        → (cs : List Lending)
        → Throughout w input cs P
    throughout P one cs = at_every P one (opened input) (history (area_loaded w input) cs) (said cs)

  loads_alike : (w v : List ℕ) → load_answer w input ≡ grants tt → load_answer v input ≡ grants tt → Alike (area_loaded w input) (area_loaded v input)
  loads_alike w v accepted accepted' =
      record {
        first = formed w accepted;
        second = formed v accepted';
        same = opens w accepted ∙ sym (opens v accepted');
      }

  -- areas that are alike have the same circuits in the same words
  pub alike_words : (w v : List ℕ) → Alike w v → (bookings v ≡ bookings w) × (held_words v ≡ held_words w)
  alike_words w v t =
      let held = ap (λ (s : Station). s.held) (sym t.same) in
      (held, same_words v w t.second t.first (equal_same held))

  -- ---- the third demand, and the second at every place of a list
  module _ (w : List ℕ) (accepted : load_answer w input ≡ grants tt) (cs : List Lending) where
    pub third_demand : ThirdDemand w input cs
    third_demand =
        record {
          refusals = throughout w accepted _ refused_as cs;
          no_five = throughout w accepted _ not_five cs;
          exactly = throughout w accepted _ exactly_refused cs;
          granted = throughout w accepted _ answered cs;
          answered = answers_given (area_loaded w input) cs;
          books = ap (λ (s : Station). s.held) (ends_follow (area_loaded w input) (opened input) (formed w accepted) (opens w accepted) cs);
          enough = throughout w accepted _ enough_granted cs;
          struck = λ v accepted' ds s.
              let both = loads_alike w v accepted accepted' in
              let ends = struck_ends (area_loaded w input) (area_loaded v input) both s in (
                struck_answers (area_loaded w input) (area_loaded v input) both s,
                (alike_words _ _ ends).0,
                (alike_words _ _ ends).1,
              );
        }

    -- beside it: with a bound of 0 the heuristic is exact. Past its checks a request is refused exactly when no usable path
    -- meets both bounds.
    pub zero_bounds : Throughout w input cs (λ o q a. Passes (checks o q) → OfRequest (λ g r b. ZeroBound r → IsRefused b ↔ (Feasible g r → ⊥)) o q a)
    zero_bounds = throughout w accepted _ zero_refused cs

    -- and the delay of a grant is its path's: its links' delays and the hold times of its inner nodes
    pub path_delays : Throughout w input cs (AtRequest (λ o r a. (b : PathGrant) → a ≡ grants b → b.delay ≡ path_delay o.table b.path))
    path_delays = throughout w accepted _ delay_granted cs

    pub second_demand : SecondDemand w input cs
    second_demand = throughout w accepted _ paths_granted cs

-- ---- the second demand on any words at all, loaded or not
module _ (w : List ℕ) (work path : ℕ) (r : Request) where
  pub any_quote : PathsGranted (net_for w r) r (quote w work path r)
  any_quote = paths_past_five w work path r (search_rules (net_for w r) r) _ (quote_means w work path r)

  pub any_admission : (c : ℕ) → PathsGranted (net_for w r) r (admission w work path c r)
  any_admission c = paths_past_five w work path r (number_rules (books_in w) c ++ search_rules (net_for w r) r) _ (admission_means w work path r c)

-- and of all jobs in one call, each where it comes
abbrev PathsOf : List ℕ → Request → PathReply → Type 0
PathsOf v r a = PathsGranted (net_for v r) r a

each_granted : (w : List ℕ) (work : ℕ) (js : List Job) → EachJob PathsOf w (singly w work js)
unfolding singly
each_granted w work [] = tt
each_granted w work (j ∷ js) = (any_admission w work path_words j.request j.number, each_granted (job_booked w (admit_job w work j)) work js)

pub any_jobs : (w : List ℕ) (work : ℕ) (jobs : List ℕ) (answers : ℕ) (rs : List JobReply) → admit_jobs w work jobs answers ≡ grants rs → EachJob PathsOf w rs
any_jobs w work jobs answers rs e = rw (jobs_granted w work jobs answers rs e).0 (each_granted w work (jobs_in jobs))
