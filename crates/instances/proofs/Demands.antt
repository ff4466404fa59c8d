-- What the three demands say at one list of a quote, an admission and a release, spelled out, each part taken from the demand
-- alone: the area, the numbers and the lent words are any, so nothing here can be computed instead, and a demand that said
-- less would not give it.
-- Assumes nothing.
use Prim.Native.Nat.{ℕ, ◌≤◌}
use mathlib.Core.Path.{◌≡◌, refl, ap, ap₂, ◌∙◌, subst}
use mathlib.Core.Bool.{true, false}
use mathlib.Core.List.{List, [], ◌∷◌, ◌++◌}
use mathlib.Core.Logic.{◌⊎◌, inl, inr, ◌↔◌}
use lib.ListN.{length}
use Rattle.network.specs.Lists.{Distinct, memb}
use Rattle.network.specs.Net.{Net, Walk, IsPath, nodes_of, sum}
use Rattle.network.specs.Problem.{NoSolution, Distance, Best}
use Rattle.network.specs.Reduce.{delay_bound, cost_bound, one, two, Enough}
use Rattle.network.specs.declared.Request.{Request}
use Rattle.network.specs.declared.Grant.{Grant as Numbers}
use Rattle.search.specs.Result.{GrantedByOne, GrantedByTwo}
use Rattle.network.specs.declared.answer.Reduction.TheVariants.{One, Two}
use Rattle.area.specs.Station.{Circuit, held_words}
use Rattle.area.specs.Books.{Books, books, net}
use Rattle.area.specs.Order.{by_number}
use Rattle.area.specs.Moves.{without}
use Rattle.area.specs.Refusals.{Rule, FirstApplies, Passes, refuses, grants, IsRefused, IsGranted}
use Rattle.area.specs.Load.{LoadInput, load_answer, area_loaded}
use Rattle.area.specs.Reads.{count_of, list_answer, listed, free_answer}
use Rattle.network.specs.declared.Terms.{Terms}
use Rattle.rules.specs.Replies.{PathGrant, PathReply, answer_of, path_of, path_after, ReleaseReply}
use Rattle.rules.specs.Calls as calls
use Rattle.rules.specs.AdmitJobs.{admit_jobs, jobs_booked, jobs_answered}
use Rattle.rules.specs.Classes.{check_answer, class_answer}
use Rattle.rules.specs.Allowed.{Grant, search_rules, request_rules, number_rules, release_rules}
use Rattle.link_format.specs.declared.Size.{Size}
use Rattle.link_format.specs.Reading.{read_answer, table_read}
use Rattle.ledger.specs.Entries.{quoting, admitting, releasing, told, Ledger, opened, moved}
use Rattle.ledger.specs.History.{Lending, Given, of_request, of_release, answers, area_at_end, bookings, strike, keep, end}
use Rattle.ledger.specs.Sentences.{Solvable}
use Rattle.ledger.specs.Demand.{FirstDemand, GrantedPath, SecondDemand, ThirdDemand}

-- ---- the first demand: each call on any words and numbers
module _ (demand : FirstDemand) where
  pub load_decided : (w : List ℕ) (input : LoadInput)
      → ((u : Unit {0}) × (load_answer w input ≡ grants u))
      ⊎ ((number : ℕ) × (memb number (1 ∷ 2 ∷ 3 ∷ 4 ∷ 22 ∷ []) ≡ true) × (load_answer w input ≡ refuses number) × (area_loaded w input ≡ w))
  load_decided = demand.load

  module _ (w : List ℕ) (work : ℕ) (l : List ℕ) (r : Request) where
    pub quote_decided : ((g : Numbers) × (answer_of (calls.quote w work (length l) r) ≡ grants g))
        ⊎ ((number : ℕ) × (memb number (5 ∷ 6 ∷ 7 ∷ 8 ∷ 9 ∷ 10 ∷ []) ≡ true) × (answer_of (calls.quote w work (length l) r) ≡ refuses number)
        × (path_after (calls.quote w work (length l) r) l ≡ l))
    quote_decided = demand.quote w work l r

    pub admission_decided : (c : ℕ) → ((g : Numbers) × (answer_of (calls.admission w work (length l) c r) ≡ grants g))
        ⊎ ((number : ℕ) × (memb number (5 ∷ 6 ∷ 7 ∷ 8 ∷ 11 ∷ 12 ∷ 9 ∷ 10 ∷ []) ≡ true)
        × (answer_of (calls.admission w work (length l) c r) ≡ refuses number)
        × ((calls.booked w c r.terms.units (calls.admission w work (length l) c r) ≡ w)
        × (path_after (calls.admission w work (length l) c r) l ≡ l)))
    admission_decided c = demand.admission w work l c r

  pub release_decided : (w : List ℕ) (c : ℕ)
      → ((u : Unit {0}) × (calls.release w c ≡ grants u))
      ⊎ ((number : ℕ) × (memb number (5 ∷ 13 ∷ []) ≡ true) × (calls.release w c ≡ refuses number)
      × (calls.cleared w c (calls.release w c) ≡ w))
  release_decided = demand.release

  pub jobs_decided : (w : List ℕ) (work : ℕ) (words l : List ℕ)
      → ((n : ℕ) × (count_of (admit_jobs w work words (length l)) ≡ grants n))
      ⊎ ((number : ℕ) × (memb number (5 ∷ 6 ∷ 23 ∷ 24 ∷ []) ≡ true) × (count_of (admit_jobs w work words (length l)) ≡ refuses number)
      × ((jobs_booked w (admit_jobs w work words (length l)) ≡ w) × (jobs_answered (admit_jobs w work words (length l)) l ≡ l)))
  jobs_decided = demand.jobs

  pub list_decided : (w l : List ℕ)
      → ((h : ℕ) × (list_answer w (length l) ≡ grants h))
      ⊎ ((number : ℕ) × (memb number (5 ∷ 14 ∷ []) ≡ true) × (list_answer w (length l) ≡ refuses number) × (listed w l ≡ l))
  list_decided = demand.list

  pub free_decided : (w : List ℕ) (i : ℕ)
      → ((u : ℕ) × (free_answer w i ≡ grants u))
      ⊎ ((number : ℕ) × (memb number (5 ∷ 15 ∷ []) ≡ true) × (free_answer w i ≡ refuses number) × Unit {0})
  free_decided = demand.free_units

  pub check_classes_decided : (rows : List ℕ)
      → ((u : Unit {0}) × (check_answer rows ≡ grants u))
      ⊎ ((number : ℕ) × (memb number (20 ∷ 21 ∷ []) ≡ true) × (check_answer rows ≡ refuses number) × Unit {0})
  check_classes_decided = demand.check_classes

  pub class_decided : (rows : List ℕ) (k : ℕ)
      → ((s : Terms) × (class_answer rows k ≡ grants s))
      ⊎ ((number : ℕ) × (memb number (20 ∷ 21 ∷ 16 ∷ []) ≡ true) × (class_answer rows k ≡ refuses number) × Unit {0})
  class_decided = demand.class

  pub file_decided : (f t : List ℕ)
      → ((s : Size) × (read_answer f (length t) ≡ grants s))
      ⊎ ((number : ℕ) × (memb number (17 ∷ 18 ∷ 19 ∷ []) ≡ true) × (read_answer f (length t) ≡ refuses number) × (table_read f t ≡ t))
  file_decided = demand.link_file

-- no solution of either problem, at whatever distance
abbrev pub Unsolvable : Net → Request → Type 0
Unsolvable h q =
    (k : ℕ) → Distance h q.source q.target k
    → NoSolution h (one h q k) q.source q.target × NoSolution h (two h q k) q.source q.target

pub unsolvable : (h : Net) (q : Request) → Unsolvable h q → Solvable h q → ⊥
unsolvable h q none (k, far, (p, inl s)) = (none k far).0 p s
unsolvable h q none (k, far, (p, inr s)) = (none k far).1 p s

-- past its checks a request is refused exactly so
pub exactly_so : (h : Net) (q : Request) (a : PathReply) → IsRefused a ↔ (Solvable h q → ⊥) → IsRefused a ↔ Unsolvable h q
exactly_so h q a said =
    (λ e k far. (λ p s. said.0 e (k, far, (p, inl s)), λ p s. said.0 e (k, far, (p, inr s))), λ none. said.1 (unsolvable h q none))

-- every field of a granted path
abbrev pub Good : Net → Request → PathGrant → Type 0
Good h q b =
    Walk h q.source q.target b.path
    × Distinct (nodes_of h q.source b.path)
    × (sum h.delay b.path ≤ delay_bound q)
    × (sum h.cost b.path ≤ cost_bound q)
    × ((k : ℕ) × Distance h q.source q.target k
    × (((b.problem ≡ One) × Best h (one h q k) q.source q.target b.path)
    ⊎ ((b.problem ≡ Two) × NoSolution h (one h q k) q.source q.target × Best h (two h q k) q.source q.target b.path)))
    × (b.delay ≡ sum h.delay b.path)
    × (b.cost ≡ sum h.cost b.path)

pub good : (h : Net) (q : Request) (b : PathGrant) → GrantedPath h q b → Good h q b
good h q b p = (p.runs, p.once, p.bounds.delay, p.bounds.cost, go p.least, p.delay, p.cost)
  where
    go : ((b.problem ≡ One) × GrantedByOne h q b.path) ⊎ ((b.problem ≡ Two) × GrantedByTwo h q b.path)
        → (k : ℕ) × Distance h q.source q.target k
        × (((b.problem ≡ One) × Best h (one h q k) q.source q.target b.path)
        ⊎ ((b.problem ≡ Two) × NoSolution h (one h q k) q.source q.target × Best h (two h q k) q.source q.target b.path))
    go (inl (e, a)) = (a.0, a.1, inl (e, a.2))
    go (inr (e, a)) = (a.0, a.1, inr (e, a.2, a.3))

-- ---- a quote, an admission of circuit c and a release of circuit d, from the area that Load leaves of w
module _ (w : List ℕ) (input : LoadInput) (work path work' path' : List ℕ) (r r' : Request) (c d : ℕ) where
  abbrev list : List Lending
  list = quoting work path r ∷ admitting work' path' c r' ∷ releasing d ∷ []

  -- the area at first, and before the release
  abbrev start : List ℕ
  start = area_loaded w input

  abbrev quoted : PathReply
  quoted = calls.quote start (length work) (length path) r

  abbrev admitted : PathReply
  admitted = calls.admission start (length work') (length path') c r'

  abbrev later : List ℕ
  later = calls.booked start c r'.terms.units admitted

  abbrev freed : ReleaseReply
  freed = calls.release later d

  -- the ledger's books at first, and before the release
  abbrev early : Books
  early = books (opened input)

  abbrev entered : Ledger
  entered = moved (opened input) (admitting (length work') (length path') c r') (told (admitting (length work') (length path') c r') admitted)

  -- the networks that the two requests see
  abbrev g : Net
  g = net early r

  abbrev g' : Net
  g' = net early r'

  -- the rules of each call
  abbrev quoting_rules : List Rule
  quoting_rules = request_rules early (length work) (length path) r

  abbrev admission_rules : List Rule
  admission_rules = request_rules early (length work') (length path') r' ++ number_rules early c

  -- ---- the second demand: every field of a granted path, of the quote and of the admission
  module _ (demand : SecondDemand w input list) where
    pub quoted_path : (b : PathGrant) → quoted ≡ grants b → Good g r b
    quoted_path b e = good g r b (demand.0 b e)

    pub admitted_path : (b : PathGrant) → admitted ≡ grants b → Good g' r' b
    admitted_path b e = good g' r' b (demand.1.0 b e)

  -- ---- the third demand
  module _ (demand : ThirdDemand w input list) where
    -- refused with a number just where it is the number of the first rule that applies
    pub quote_refused : (number : ℕ) → (quoted ≡ refuses number) ↔ FirstApplies (quoting_rules ++ search_rules g r) number
    quote_refused = demand.refusals.0

    pub admission_refused : (number : ℕ) → (admitted ≡ refuses number) ↔ FirstApplies (admission_rules ++ search_rules g' r') number
    admission_refused = demand.refusals.1.0

    pub release_refused : (number : ℕ) → (freed ≡ refuses number) ↔ (((books entered).holds d ≡ false) × (number ≡ 13))
    release_refused number = (λ e. only ((demand.refusals.1.1.0 number).0 e), λ h. (demand.refusals.1.1.0 number).1 (inl h))
      where
        only : FirstApplies (release_rules (books entered) d) number → ((books entered).holds d ≡ false) × (number ≡ 13)
        only (inl h) = h
        only (inr h) = absurd h.1

    -- never with 5
    pub quote_not_five : quoted ≡ refuses 5 → ⊥
    quote_not_five = demand.no_five.0

    pub admission_not_five : admitted ≡ refuses 5 → ⊥
    admission_not_five = demand.no_five.1.0

    pub release_not_five : freed ≡ refuses 5 → ⊥
    release_not_five = demand.no_five.1.1.0

    -- past its checks a request is refused exactly when neither problem has a solution
    pub quote_exactly : Passes quoting_rules → IsRefused quoted ↔ Unsolvable g r
    quote_exactly past = exactly_so g r quoted (demand.exactly.0 past)

    pub admission_exactly : Passes admission_rules → IsRefused admitted ↔ Unsolvable g' r'
    admission_exactly past = exactly_so g' r' admitted (demand.exactly.1.0 past)

    -- a grant is a best path of its problem, with its own sums
    pub quote_granted : (b : PathGrant) → quoted ≡ grants b → Grant g r b
    quote_granted = demand.granted.0

    pub admission_granted : (b : PathGrant) → admitted ≡ grants b → Grant g' r' b
    admission_granted = demand.granted.1.0

    -- what the three calls answer
    pub all_answered : answers start list
        ≡ of_request (answer_of quoted) (path_of quoted) ∷ of_request (answer_of admitted) (path_of admitted) ∷ of_release freed ∷ []
    all_answered = demand.answered

    -- after a granted admission and the release, the admitted circuit is held, unless it is the one released, and no other
    pub books_kept : (b : PathGrant) → admitted ≡ grants b
        → bookings (calls.cleared later d freed) ≡ by_number (without d (record { number = c; units = r'.terms.units; path = b.path } ∷ []))
    books_kept b e =
        subst (λ (a : PathReply). bookings (calls.cleared later d freed) ≡ by_number (without d (held a))) e demand.books
      where
        held : PathReply → List Circuit
        held a = (moved (opened input) (admitting (length work') (length path') c r') (told (admitting (length work') (length path') c r') a)).held

    -- an overqualified path is enough
    pub quote_enough : Passes quoting_rules → (k : ℕ) → Distance g r.source r.target k → (p : List ℕ)
        → IsPath g r.source r.target p → Enough g r k p
        → IsGranted quoted
    quote_enough past k far p path h = demand.enough.0 past (k, far, (p, path, h))

    pub admission_enough : Passes admission_rules → (k : ℕ) → Distance g' r'.source r'.target k → (p : List ℕ)
        → IsPath g' r'.source r'.target p → Enough g' r' k p
        → IsGranted admitted
    admission_enough past k far p path h = demand.enough.1.0 past (k, far, (p, path, h))

    -- the quote struck: on any area that Load accepts, the other two calls, lent as many words, answer as they did, and
    -- leave the same bookings, in the same words of circuits
    pub unquoted : (v : List ℕ) → load_answer v input ≡ grants tt → (lent lent' : List ℕ) → length work' ≡ length lent → length path' ≡ length lent'
        → (answers (area_loaded v input) (admitting lent lent' c r' ∷ releasing d ∷ [])
        ≡ of_request (answer_of admitted) (path_of admitted) ∷ of_release freed ∷ [])
        × (bookings (area_at_end (area_loaded v input) (admitting lent lent' c r' ∷ releasing d ∷ [])) ≡ bookings (calls.cleared later d freed))
        × (held_words (area_at_end (area_loaded v input) (admitting lent lent' c r' ∷ releasing d ∷ [])) ≡ held_words (calls.cleared later d freed))
    unquoted v accepted lent lent' e f =
        let said = demand.struck v accepted (admitting lent lent' c r' ∷ releasing d ∷ [])
        (strike (keep (ap₂ (λ (a b : ℕ). admitting a b c r') e f) (keep refl end))) in
        (said.0 ∙ ap rest all_answered, said.1, said.2)
      where
        -- the answers but the first
        rest : List Given → List Given
        rest [] = []
        rest (a ∷ []) = []
        rest (a ∷ b ∷ []) = []
        rest (a ∷ b ∷ e ∷ l) = b ∷ e ∷ []
