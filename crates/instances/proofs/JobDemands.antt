-- What the demands say at a list of two jobs in one call and a release, spelled out as in Demands.antt: of the call itself, of each
-- of its jobs where it comes, and of the bookings after. The area, the job list and the lent words are any.
-- Assumes nothing.
use Prim.Native.Nat.{ℕ, ◌*◌, ◌/◌, ◌<◌}
use mathlib.Core.Path.{◌≡◌, ap, ap₂, ◌∙◌, subst}
use mathlib.Core.List.{List, [], ◌∷◌, ◌++◌, map}
use mathlib.Core.Logic.{◌↔◌}
use lib.ListN.{length}
use Rattle.network.specs.Net.{Net, IsPath}
use Rattle.network.specs.Problem.{Distance}
use Rattle.network.specs.Reduce.{Enough}
use Rattle.network.specs.declared.Request.{Request}
use Rattle.area.specs.Station.{held_words}
use Rattle.area.specs.Books.{Books, books, net}
use Rattle.area.specs.Order.{by_number}
use Rattle.area.specs.Moves.{without}
use Rattle.area.specs.Refusals.{Rule, ◌when◌, FirstApplies, Passes, refuses, grants, IsRefused, IsGranted}
use Rattle.area.specs.Load.{LoadInput, load_answer, area_loaded}
use Rattle.area.specs.Reads.{count_of}
use Rattle.rules.specs.Replies.{PathGrant, ReleaseReply}
use Rattle.rules.specs.Calls as calls
use Rattle.rules.specs.Jobs.{jobs_in, WholeJobs}
use Rattle.rules.specs.AdmitJobs.{JobReply, JobsReply, job_answers, admit_jobs, jobs_booked}
use Rattle.rules.specs.Allowed.{Grant, search_rules, request_rules, number_rules}
use Rattle.ledger.specs.Entries.{Call, quoting, admitting, releasing, admitting_jobs, Granting, ReplyTo, told, Ledger, opened, checks, Refuses, Grants, moved}
use Rattle.ledger.specs.History.{Lending, Given, of_release, of_jobs, jobs_admitted, history, words_of_jobs, answers, area_at_end, bookings, at_end, strike, keep, end}
use Rattle.ledger.specs.Sentences.{Solvable, Overqualifies, AtEvery, OfRequest}
use Rattle.ledger.specs.Demand.{PathsGranted, SecondDemand, ThirdDemand}
use Rattle.instances.proofs.Demands.{Unsolvable, exactly_so, Good, good}

module _ (w : List ℕ) (input : LoadInput) (work jobs buffer : List ℕ) (d : ℕ) where
  abbrev list : List Lending
  list = admitting_jobs work jobs buffer ∷ releasing d ∷ []

  abbrev call : Call ℕ
  call = admitting_jobs (length work) jobs (length buffer)

  abbrev start : List ℕ
  start = area_loaded w input

  abbrev replied : JobsReply
  replied = admit_jobs start (length work) jobs (length buffer)

  -- the area before the release, and what it replies
  abbrev later : List ℕ
  later = jobs_booked start replied

  abbrev freed : ReleaseReply
  freed = calls.release later d

  -- ---- the call itself
  module _ (demand : ThirdDemand w input list) where
    pub call_refused : (k : ℕ) → (replied ≡ refuses k)
        ↔ FirstApplies
        ((6 when length work < 16384) ∷ (23 when (WholeJobs jobs → ⊥)) ∷ (24 when length buffer < 36 * (length jobs / 7)) ∷ [])
        k
    call_refused = demand.refusals.0

    pub call_not_five : replied ≡ refuses 5 → ⊥
    call_not_five = demand.no_five.0

    -- a grant has a reply for each job of the list
    pub call_granted : (rs : List JobReply) → replied ≡ grants rs → map (λ (a : JobReply). a.job) rs ≡ jobs_in jobs
    call_granted = demand.granted.0

    -- and the calls answer how many jobs there are, with their words, and the release
    pub both_answered : answers start list ≡ of_jobs (count_of replied) (words_of_jobs replied) ∷ of_release freed ∷ []
    both_answered = demand.answered

  -- ---- its jobs, where it is granted with two replies
  module _ (a b : JobReply) (e : replied ≡ grants (a ∷ b ∷ [])) where
    -- the ledger's books where each job comes
    abbrev early : Books
    early = books (opened input)

    abbrev admission : JobReply → Call ℕ
    admission c = admitting (length work) 31 c.job.number c.job.request

    abbrev entered : Ledger
    entered = moved (opened input) (admission a) (told (admission a) a.reply)

    abbrev both_entered : Ledger
    both_entered = moved entered (admission b) (told (admission b) b.reply)

    -- the networks that the two requests see
    abbrev g : Net
    g = net early a.job.request

    abbrev g' : Net
    g' = net (books entered) b.job.request

    -- what holds at every place of the list holds of both jobs
    of_jobs_too : (P : Books → (q : Call ℕ) → ReplyTo q → Type 0) → AtEvery P (opened input) (history start list)
        → P early (admission a) a.reply × P (books entered) (admission b) b.reply
    of_jobs_too P h = (both.0, both.1.0)
      where
        both : AtEvery P (opened input) (jobs_admitted call (grants (a ∷ b ∷ [])) ++ history (jobs_booked start (grants (a ∷ b ∷ []))) (releasing d ∷ []))
        both =
            subst (λ (c : JobsReply). AtEvery P (opened input) (jobs_admitted call c ++ history (jobs_booked start c) (releasing d ∷ []))) e h.1

    -- what the third demand says at a place, by the part of it
    abbrev Exactly : Books → (q : Call ℕ) → ReplyTo q → Type 0
    Exactly o q c = Passes (checks o q) → OfRequest (λ h r x. IsRefused x ↔ (Solvable h r → ⊥)) o q c

    abbrev AlwaysEnough : Books → (q : Call ℕ) → ReplyTo q → Type 0
    AlwaysEnough o q c = Passes (checks o q) → OfRequest (λ h r x. Overqualifies h r → IsGranted x) o q c

    abbrev RefusedAs : Books → (q : Call ℕ) → ReplyTo q → Type 0
    RefusedAs o q c = (k : ℕ) → (c ≡ refuses k) ↔ Refuses o q k

    abbrev GrantedAs : Books → (q : Call ℕ) → ReplyTo q → Type 0
    GrantedAs o q c = (what : Granting q) → c ≡ grants what → Grants o q what

    -- the rules of each, with a path buffer of 31 words
    abbrev first_rules : List Rule
    first_rules = request_rules early (length work) 31 a.job.request ++ number_rules early a.job.number

    abbrev second_rules : List Rule
    second_rules = request_rules (books entered) (length work) 31 b.job.request ++ number_rules (books entered) b.job.number

    module _ (demand : SecondDemand w input list) where
      both_paths : PathsGranted g a.job.request a.reply × PathsGranted g' b.job.request b.reply
      both_paths = of_jobs_too (OfRequest PathsGranted) demand

      pub first_path : (p : PathGrant) → a.reply ≡ grants p → Good g a.job.request p
      first_path p is = good g a.job.request p (both_paths.0 p is)

      pub second_path : (p : PathGrant) → b.reply ≡ grants p → Good g' b.job.request p
      second_path p is = good g' b.job.request p (both_paths.1 p is)

    module _ (demand : ThirdDemand w input list) where
      -- refused with a number just where it is the number of the first rule that applies
      pub first_refused : (k : ℕ) → (a.reply ≡ refuses k) ↔ FirstApplies (first_rules ++ search_rules g a.job.request) k
      first_refused = (of_jobs_too RefusedAs demand.refusals).0

      pub second_refused : (k : ℕ) → (b.reply ≡ refuses k) ↔ FirstApplies (second_rules ++ search_rules g' b.job.request) k
      second_refused = (of_jobs_too RefusedAs demand.refusals).1

      -- past its checks a job is refused exactly when neither problem has a solution
      pub first_exactly : Passes first_rules → IsRefused a.reply ↔ Unsolvable g a.job.request
      first_exactly past = exactly_so g a.job.request a.reply ((of_jobs_too Exactly demand.exactly).0 past)

      pub second_exactly : Passes second_rules → IsRefused b.reply ↔ Unsolvable g' b.job.request
      second_exactly past = exactly_so g' b.job.request b.reply ((of_jobs_too Exactly demand.exactly).1 past)

      -- a grant is a best path of its problem, with its own sums
      pub first_granted : (p : PathGrant) → a.reply ≡ grants p → Grant g a.job.request p
      first_granted = (of_jobs_too GrantedAs demand.granted).0

      pub second_granted : (p : PathGrant) → b.reply ≡ grants p → Grant g' b.job.request p
      second_granted = (of_jobs_too GrantedAs demand.granted).1

      -- an overqualified path is enough
      pub first_enough : Passes first_rules → (k : ℕ) → Distance g a.job.request.source a.job.request.target k → (p : List ℕ)
          → IsPath g a.job.request.source a.job.request.target p → Enough g a.job.request k p
          → IsGranted a.reply
      first_enough past k far p path h = (of_jobs_too AlwaysEnough demand.enough).0 past (k, far, (p, path, h))

      pub second_enough : Passes second_rules → (k : ℕ) → Distance g' b.job.request.source b.job.request.target k → (p : List ℕ)
          → IsPath g' b.job.request.source b.job.request.target p → Enough g' b.job.request k p
          → IsGranted b.reply
      second_enough past k far p path h = (of_jobs_too AlwaysEnough demand.enough).1 past (k, far, (p, path, h))

      -- after the release the granted jobs' circuits are held, but the one released
      pub books_kept : bookings (calls.cleared later d freed) ≡ by_number (without d both_entered.held)
      books_kept =
          subst
          (λ (c : JobsReply). bookings (calls.cleared later d freed)
          ≡ by_number (at_end (opened input) (jobs_admitted call c ++ history (jobs_booked start c) (releasing d ∷ []))).held)
          e demand.books

      -- and the call answers 2 and the words of both
      pub two_answered : answers start list ≡ of_jobs (grants 2) (job_answers (a ∷ b ∷ [])) ∷ of_release freed ∷ []
      two_answered =
          subst (λ (c : JobsReply). answers start list ≡ of_jobs (count_of c) (words_of_jobs c) ∷ of_release freed ∷ []) e demand.answered

-- ---- a quote struck before jobs in one call: on any area that Load accepts, the call for the same jobs, lent as many words, answers
-- as it did, and leaves the same bookings, in the same words of circuits
module _ (w : List ℕ) (input : LoadInput) (work path : List ℕ) (r : Request) (work' jobs buffer : List ℕ) where
  abbrev quoted_list : List Lending
  quoted_list = quoting work path r ∷ admitting_jobs work' jobs buffer ∷ []

  abbrev said : JobsReply
  said = admit_jobs (area_loaded w input) (length work') jobs (length buffer)

  pub unquoted : ThirdDemand w input quoted_list → (v : List ℕ) → load_answer v input ≡ grants tt → (lent lent' : List ℕ)
      → length work' ≡ length lent → length buffer ≡ length lent'
      → (answers (area_loaded v input) (admitting_jobs lent jobs lent' ∷ []) ≡ of_jobs (count_of said) (words_of_jobs said) ∷ [])
      × (bookings (area_at_end (area_loaded v input) (admitting_jobs lent jobs lent' ∷ [])) ≡ bookings (jobs_booked (area_loaded w input) said))
      × (held_words (area_at_end (area_loaded v input) (admitting_jobs lent jobs lent' ∷ [])) ≡ held_words (jobs_booked (area_loaded w input) said))
  unquoted demand v accepted lent lent' e f =
      let alike = demand.struck v accepted (admitting_jobs lent jobs lent' ∷ []) (strike (keep (ap₂ (λ (a b : ℕ). admitting_jobs a jobs b) e f) end)) in
      (alike.0 ∙ ap rest demand.answered, alike.1, alike.2)
    where
      -- the answers but the first
      rest : List Given → List Given
      rest [] = []
      rest (a ∷ l) = l
