-- The three demands, each part with the sentence that it claims. What stands in quotation marks is the demand's own words;
-- what document 01 says besides stands without them. docs/CLAIMS.md goes through both.
-- Assumes nothing.
use Rattle.std.specs.Prelude.{ℕ, ◌≡◌, true, List, [], ◌∷◌, map, ◌⊎◌, ◌↔◌, length}
use Rattle.network.specs.Lists.{Distinct, memb}
use Rattle.network.specs.Net.{Net, Walk, nodes_of, sum}
use Rattle.network.specs.Reduce.{WithinBounds}
use Rattle.network.specs.declared.Request.{Request}
use Rattle.network.specs.declared.answer.Reduction.TheVariants.{One, Two}
use Rattle.search.specs.Result.{GrantedByOne, GrantedByTwo}
use Rattle.area.specs.Books.{Books}
use Rattle.area.specs.Station.{held_words}
use Rattle.area.specs.Order.{by_number}
use Rattle.area.specs.Refusals.{Passes, Reply, refuses, grants, IsRefused, IsGranted}
use Rattle.area.specs.Load.{LoadInput, load_answer, area_loaded}
use Rattle.area.specs.Reads.{count_of, list_answer, listed, free_answer}
use Rattle.rules.specs.Replies.{PathGrant, PathReply, answer_of, path_after}
use Rattle.rules.specs.Calls as calls
use Rattle.rules.specs.AdmitJobs.{admit_jobs, jobs_booked, jobs_answered}
use Rattle.rules.specs.Classes.{check_answer, class_answer}
use Rattle.link_format.specs.Reading.{read_answer, table_read}
use Rattle.ledger.specs.Entries.{Call, Granting, ReplyTo, opened, checks, Refuses, Grants}
use Rattle.ledger.specs.History.{Lending, given_by, Event, history, calls_made, answers, area_at_end, bookings, at_end, Struck, remaining}
use Rattle.ledger.specs.Sentences.{Solvable, Overqualifies, AtEvery, OfRequest}

-- ---- the first demand
-- "Every call on any numbers and any memory gives its answer or a numbered refusal. A refusal leaves bookings and path buffer
-- as they stood; only work memory may differ."
-- The answer a is one that grants, or a refusal with one of these numbers, and then the lent words are kept.
abbrev pub Decided : {A : Type 0} → List ℕ → Type 0 → Reply A → Type 0
Decided numbers Kept a = IsGranted a ⊎ ((k : ℕ) × (memb k numbers ≡ true) × (a ≡ refuses k) × Kept)

-- Each call by the definitions that its contract cites, on any words w, l and t of its area, its path buffer, list or answer
-- buffer, and its table, and any numbers. The numbers are those that the papers give for the call, in their order. A call that is
-- lent words to read alone keeps them by its type: a quote, a listing and free units the area, all jobs in one call the job list,
-- the check of a class table and a class the table's rows.
pub record FirstDemand : Type 0 where
  pub load : (w : List ℕ) (input : LoadInput)
      → Decided (1 ∷ 2 ∷ 3 ∷ 4 ∷ 22 ∷ []) (area_loaded w input ≡ w) (load_answer w input)
  pub quote : (w : List ℕ) (work : ℕ) (l : List ℕ) (r : Request)
      → let a = calls.quote w work (length l) r in
      Decided (5 ∷ 6 ∷ 7 ∷ 8 ∷ 9 ∷ 10 ∷ []) (path_after a l ≡ l) (answer_of a)
  pub admission : (w : List ℕ) (work : ℕ) (l : List ℕ) (c : ℕ) (r : Request)
      → let a = calls.admission w work (length l) c r in
      Decided (5 ∷ 6 ∷ 7 ∷ 8 ∷ 11 ∷ 12 ∷ 9 ∷ 10 ∷ [])
      ((calls.booked w c r.terms.units a ≡ w) × (path_after a l ≡ l)) (answer_of a)
  pub release : (w : List ℕ) (c : ℕ)
      → let a = calls.release w c in
      Decided (5 ∷ 13 ∷ []) (calls.cleared w c a ≡ w) a
  pub jobs : (w : List ℕ) (work : ℕ) (words l : List ℕ)
      → let a = admit_jobs w work words (length l) in
      Decided (5 ∷ 6 ∷ 23 ∷ 24 ∷ []) ((jobs_booked w a ≡ w) × (jobs_answered a l ≡ l)) (count_of a)
  pub list : (w l : List ℕ)
      → Decided (5 ∷ 14 ∷ []) (listed w l ≡ l) (list_answer w (length l))
  pub free_units : (w : List ℕ) (i : ℕ)
      → Decided (5 ∷ 15 ∷ []) (Unit {0}) (free_answer w i)
  pub check_classes : (rows : List ℕ) → Decided (20 ∷ 21 ∷ []) (Unit {0}) (check_answer rows)
  pub class : (rows : List ℕ) (k : ℕ)
      → Decided (20 ∷ 21 ∷ 16 ∷ []) (Unit {0}) (class_answer rows k)
  pub link_file : (f t : List ℕ)
      → Decided (17 ∷ 18 ∷ 19 ∷ []) (table_read f t ≡ t) (read_answer f (length t))

-- ---- the second demand
-- what it says of a path that a request was granted, with its problem and totals
pub record GrantedPath (g : Net) (r : Request) (a : PathGrant) : Type 0 where
  -- "Every path granted runs from source to destination": by usable links, each beginning where the one before ended
  pub runs : Walk g r.source r.target a.path
  -- "passes no node twice"
  pub once : Distinct (nodes_of g r.source a.path)
  -- "meets both original bounds"
  pub bounds : WithinBounds g r a.path
  -- "has the least kept weight among ALL solutions of the reduced problem that granted it", which is two only where one has
  -- none; both are at the same x: "No looser second try."
  pub least : ((a.problem ≡ One) × GrantedByOne g r a.path) ⊎ ((a.problem ≡ Two) × GrantedByTwo g r a.path)
  -- "its totals are its links' sums"
  pub delay : a.delay ≡ sum g.delay a.path
  pub cost : a.cost ≡ sum g.cost a.path

-- and of a reply: every path that it grants is such a path
abbrev pub PathsGranted : Net → Request → PathReply → Type 0
PathsGranted g r a = (b : PathGrant) → a ≡ grants b → GrantedPath g r b

-- ---- the third demand
-- "One theorem over EVERY list of admissions, releases and quotes from a freshly loaded area": from the area that Load
-- leaves of w, with n, the links and the hold times, the calls cs run one after another, each lent any words. A call for all jobs
-- may stand among them (Req 06); where it is granted, each of its jobs is an admission at a place of its own.
module _ (w : List ℕ) (input : LoadInput) (cs : List Lending) where
  abbrev start : List ℕ
  start = area_loaded w input

  -- P holds at every place of the list, beside a ledger that opens with the same numbers
  abbrev pub Throughout : (Books → (q : Call ℕ) → ReplyTo q → Type 0) → Type 0
  Throughout P = AtEvery P (opened input) (history start cs)

  -- the second demand at every place of the list
  abbrev pub SecondDemand : Type 0
  SecondDemand = Throughout (OfRequest PathsGranted)

  pub record ThirdDemand : Type 0 where
    -- "refusals are exactly the ledger's": refused with k just where k is the number of the first rule that applies
    pub refusals : Throughout (λ o q a. (k : ℕ) → (a ≡ refuses k) ↔ Refuses o q k)
    -- 5 never occurs
    pub no_five : Throughout (λ o q a. a ≡ refuses 5 → ⊥)
    -- past the checks a request is refused exactly when no usable path solves either reduced problem
    pub exactly : Throughout (λ o q a. Passes (checks o q) → OfRequest (λ g r b. IsRefused b ↔ (Solvable g r → ⊥)) o q a)
    -- "grants answer ... as the ledger says": a best path of its problem, with its own sums
    pub granted : Throughout (λ o q a. (b : Granting q) → a ≡ grants b → Grants o q b)
    -- what each call answers is what its reply says: the numbers, with the path's delay, cost and l, and the path's words
    -- and of all jobs in one call, whose reply has one for each job, their number and their words
    pub answered : answers start cs ≡ map (λ (e : Event). given_by e.call e.reply) (calls_made start cs)
    -- "and book as the ledger says": after the list, and so after every call, the bookings are exactly the entries, by rising
    -- number
    pub books : bookings (area_at_end start cs) ≡ by_number (at_end (opened input) (history start cs)).held
    -- "overqualified paths are always enough"
    pub enough : Throughout (λ o q a. Passes (checks o q) → OfRequest (λ g r b. Overqualifies g r → IsGranted b) o q a)
    -- "striking quotes changes no other answer nor the final bookings", from any area v loaded with the same numbers and
    -- whatever words the calls are lent; the bookings stand in the same words
    pub struck : (v : List ℕ) → load_answer v input ≡ grants tt → (ds : List Lending) (s : Struck cs ds)
        → let last = area_at_end start cs in
        let left = area_at_end (area_loaded v input) ds in
        (answers (area_loaded v input) ds ≡ remaining s (answers start cs)) × (bookings left ≡ bookings last)
        × (held_words left ≡ held_words last)
