-- What the contracts' clauses `means` give a caller, spelled out, each part taken from the clause alone: the words, the answer
-- and what is left are any, so a clause that said less would not give it.
-- Assumes nothing.
use Prim.Native.Nat.{ℕ, ◌+◌, ◌*◌, ◌/◌, ◌≤◌, ◌<◌}
use mathlib.Core.Path.{◌≡◌, refl, sym, ap, ◌∙◌, subst}
use mathlib.Core.Bool.{false, true≢false}
use mathlib.Core.List.{List, [], ◌∷◌, ◌++◌, map}
use native.Mathlib.Omega.{arith}
use lib.ListN.{length, get_or, drop, replicate, length-map}
use Rattle.network.specs.Lists.{memb}
use Rattle.network.specs.Reduce.{problem_number}
use Rattle.network.proofs.Listed.{from_length}
use Rattle.network.specs.Net.{Net}
use Rattle.network.specs.declared.Request.{Request}
use Rattle.network.specs.declared.Grant.{Grant as Numbers}
use Rattle.network.proofs.Tests.{zero_one}
use Rattle.area.specs.Station.{station}
use Rattle.area.specs.Books.{holds, books}
use Rattle.area.specs.Formed.{WellFormed}
use Rattle.area.specs.Order.{Rising, placed}
use Rattle.area.specs.Moves.{without, Untouched}
use Rattle.area.specs.Held.{ListsHeld}
use Rattle.area.specs.Refusals.{Rule, ◌when◌, FirstApplies, Passes, Reply, refuses, grants, Answered}
use Rattle.area.specs.Reads.{count_of, buffer_after, list_rules, ListMeans}
use Rattle.rules.specs.Replies.{PathGrant, PathReply, answer_of, path_after}
use Rattle.rules.specs.Allowed.{Grant, search_rules, number_rules}
use Rattle.rules.specs.Meaning.{books_in, quote_rules, net_for, Quoted, Admitted, AreaBooked, QuoteMeans, AdmissionMeans, ReleaseMeans}
use Rattle.rules.specs.declared.Job.{Job}
use Rattle.rules.specs.Jobs.{job_at, job_count, jobs_in, WholeJobs}
use Rattle.rules.specs.AdmitJobs.{JobReply, job_answer, job_answers, JobsReply, jobs_answered, OneForEach, Singly, AreaJobs, JobsMean}
use Rattle.instances.proofs.Areas.{seven, eight}

-- what a caller knows of a granted path: no rule applied, it is a best one of its problem, the numbers are its own, and it
-- stands in the first words of the path buffer, where the others keep theirs
abbrev PathGiven : List Rule → Net → Request → Numbers → List ℕ → List ℕ → PathGrant → Type 0
PathGiven rules h r g l l' b =
    Passes rules
    × Grant h r b
    × (g ≡ record { problem = b.problem; delay = b.delay; cost = b.cost; links = length b.path })
    × (l' ≡ b.path ++ drop (length b.path) l)

-- ---- a quote
module _ (w : List ℕ) (work : ℕ) (l : List ℕ) (r : Request) (l' : List ℕ) where
  abbrev quoting_rules : List Rule
  quoting_rules = quote_rules w work (length l) r ++ search_rules (net_for w r) r

  -- refused: by the first rule that applies, and the path buffer is as it was
  pub quote_refused : (k : ℕ) → QuoteMeans w work l r (refuses k) l' → FirstApplies quoting_rules k × (l' ≡ l)
  unfolding answer_of path_after
  quote_refused k h = go h.reply h.allowed h.answer h.path
    where
      go : (a : PathReply) → Quoted w work (length l) r a → refuses k ≡ answer_of a → l' ≡ path_after a l
          → FirstApplies quoting_rules k × (l' ≡ l)
      go (refuses j) allowed e path = let same : j ≡ k = cc in (rw (← same) allowed, path)
      go (grants b) allowed e path = absurd (zero_one cc)

  -- granted: a path
  pub quote_granted : (g : Numbers) → QuoteMeans w work l r (grants g) l' → (b : PathGrant) × PathGiven quoting_rules (net_for w r) r g l l' b
  unfolding answer_of path_after
  quote_granted g h = go h.reply h.allowed h.answer h.path
    where
      go : (a : PathReply) → Quoted w work (length l) r a → grants g ≡ answer_of a → l' ≡ path_after a l
          → (b : PathGrant) × PathGiven quoting_rules (net_for w r) r g l l' b
      go (refuses j) allowed e path = absurd (zero_one cc)
      go (grants b) allowed e path = (b, (allowed.0, allowed.1, cc, path))

-- ---- an admission of circuit c
module _ (w : List ℕ) (work : ℕ) (l : List ℕ) (c : ℕ) (r : Request) (l' w' : List ℕ) where
  abbrev admission_rules : List Rule
  admission_rules = quote_rules w work (length l) r ++ number_rules (books_in w) c ++ search_rules (net_for w r) r

  -- refused: neither the path buffer nor the area has changed
  pub admission_refused : (k : ℕ) → AdmissionMeans w work l c r (refuses k) l' w' → FirstApplies admission_rules k × (l' ≡ l) × (w' ≡ w)
  unfolding answer_of path_after
  admission_refused k h = go h.reply h.allowed h.answer h.path h.area
    where
      go : (a : PathReply) → Admitted w work (length l) c r a → refuses k ≡ answer_of a → l' ≡ path_after a l → AreaBooked w c r.terms.units a w'
          → FirstApplies admission_rules k × (l' ≡ l) × (w' ≡ w)
      go (refuses j) allowed e path area = let same : j ≡ k = cc in (rw (← same) allowed, path, area)
      go (grants b) allowed e path area = absurd (zero_one cc)

  -- granted: a path as for a quote, and the circuit is held besides, at its place, in an area that is well formed and otherwise
  -- untouched
  abbrev CircuitHeld : PathGrant → Type 0
  CircuitHeld b =
      ((station w').held ≡ placed (record { number = c; units = r.terms.units; path = b.path }) (station w).held) × WellFormed w' × Untouched w w'

  pub admission_granted : (g : Numbers) → AdmissionMeans w work l c r (grants g) l' w'
      → (b : PathGrant) × PathGiven admission_rules (net_for w r) r g l l' b
      × CircuitHeld b
  unfolding answer_of path_after
  admission_granted g h = go h.reply h.allowed h.answer h.path h.area
    where
      go : (a : PathReply) → Admitted w work (length l) c r a → grants g ≡ answer_of a → l' ≡ path_after a l → AreaBooked w c r.terms.units a w'
          → (b : PathGrant) × PathGiven admission_rules (net_for w r) r g l l' b
          × CircuitHeld b
      go (refuses j) allowed e path area = absurd (zero_one cc)
      go (grants b) allowed e path area = (b, (allowed.0, allowed.1, cc, path), (area.holds, area.formed, area.untouched))

-- ---- a release of circuit c
module _ (w : List ℕ) (c : ℕ) (w' : List ℕ) where
  abbrev releasing_rules : List Rule
  releasing_rules = (5 when (WellFormed w → ⊥)) ∷ (13 when holds (station w).held c ≡ false) ∷ []

  pub release_refused : (k : ℕ) → ReleaseMeans w c (refuses k) w' → FirstApplies releasing_rules k × (w' ≡ w)
  unfolding books
  release_refused k h = (h.allowed, h.area)

  -- granted: the others are held, in an area that is well formed and otherwise untouched
  abbrev OthersHeld : Type 0
  OthersHeld = ((station w').held ≡ without c (station w).held) × WellFormed w' × Untouched w w'

  pub release_granted : ReleaseMeans w c (grants tt) w' → Passes releasing_rules × OthersHeld
  unfolding books
  release_granted h = (h.allowed.0, (h.area.holds, h.area.formed, h.area.untouched))

-- ---- all jobs in one call, with the job list `words` and the answer buffer l
module _ (w : List ℕ) (work : ℕ) (words l l' w' : List ℕ) where
  abbrev opening_rules : List Rule
  opening_rules =
      (5 when (WellFormed w → ⊥)) ∷ (6 when work < 16384) ∷ (23 when (WholeJobs words → ⊥)) ∷ (24 when length l < 36 * (length words / 7)) ∷ []

  -- refused: neither the answer buffer nor the area has changed
  pub jobs_refused : (k : ℕ) → JobsMean w work words l (refuses k) l' w' → FirstApplies opening_rules k × (l' ≡ l) × (w' ≡ w)
  unfolding jobs_answered
  jobs_refused k h = go h.reply h.allowed h.answer h.answers h.area
    where
      go : (a : JobsReply) → Answered (OneForEach words) opening_rules a → refuses k ≡ count_of a → l' ≡ jobs_answered a l → AreaJobs w work a w'
          → FirstApplies opening_rules k × (l' ≡ l) × (w' ≡ w)
      go (refuses j) allowed e answers area = let same : j ≡ k = cc in (rw (← same) allowed, answers, area)
      go (grants rs) allowed e answers area = absurd (zero_one cc)

  -- granted: no rule applied, there is a reply to each job of the list, the answers to them stand in the first words of the buffer,
  -- where the others keep theirs, and the replies are those of admissions one after another
  abbrev JobsGiven : ℕ → List JobReply → Type 0
  JobsGiven n rs =
      Passes opening_rules
      × (map (λ (a : JobReply). a.job) rs ≡ jobs_in words)
      × (n ≡ length rs)
      × (l' ≡ job_answers rs ++ drop (36 * length rs) l)
      × Singly w work rs w'

  pub jobs_granted : (n : ℕ) → JobsMean w work words l (grants n) l' w' → (rs : List JobReply) × JobsGiven n rs
  unfolding jobs_answered
  jobs_granted n h = go h.reply h.allowed h.answer h.answers h.area
    where
      go : (a : JobsReply) → Answered (OneForEach words) opening_rules a → grants n ≡ count_of a → l' ≡ jobs_answered a l → AreaJobs w work a w'
          → (rs : List JobReply) × JobsGiven n rs
      go (refuses j) allowed e answers area = absurd (zero_one cc)
      go (grants rs) allowed e answers area = (rs, (allowed.0, allowed.1, cc, answers, area))

  -- so it gives as many as the list has jobs
  pub jobs_counted : (n : ℕ) → JobsMean w work words l (grants n) l' w' → n ≡ length words / 7
  jobs_counted n h =
      let given = jobs_granted n h in
      let rs : List JobReply = given.0 in
      given.1.2 ∙ sym (length-map rs (λ (a : JobReply). a.job)) ∙ ap (λ (js : List Job). length js) given.1.1 ∙ from_length (job_at words) 0 (job_count words)

  -- of two jobs, on the area w and on the area v that the first leaves: each is admitted by the rules there, and answered in 36 words
  pub two_admitted : (a b : JobReply) → Singly w work (a ∷ b ∷ []) w'
      → (v : List ℕ) × Admitted w work 31 a.job.number a.job.request a.reply × AreaBooked w a.job.number a.job.request.terms.units a.reply v
      × Admitted v work 31 b.job.number b.job.request b.reply
      × AreaBooked v b.job.number b.job.request.terms.units b.reply w'
  two_admitted a b h =
      (h.1.0, h.0, h.1.1, h.1.2.0, subst (AreaBooked h.1.0 b.job.number b.job.request.terms.units b.reply) (sym h.1.2.1.2) h.1.2.1.1)

  -- and the words of a job's answer: the refusal's number and zeros, or the four numbers and the path
  pub refusal_words : (k : ℕ) (j : Job) → job_answer (record { job = j; reply = refuses k }) ≡ k ∷ replicate 35 0
  unfolding path_after
  refusal_words k j = refl

  pub grant_words : (g : PathGrant) (j : Job)
      → job_answer (record { job = j; reply = grants g })
      ≡ 0 ∷ problem_number g.problem ∷ g.delay ∷ g.cost ∷ length g.path ∷ g.path ++ drop (length g.path) (replicate 31 0)
  unfolding path_after
  grant_words g j = refl

-- ---- a listing into the buffer l
module _ (w l l' : List ℕ) where
  abbrev listing_rules : List Rule
  listing_rules = (5 when (WellFormed w → ⊥)) ∷ (14 when length l < length (station w).held) ∷ []

  abbrev Allowed : Reply (List ℕ) → Type 0
  Allowed a = Answered (ListsHeld (station w).held) (list_rules w (length l)) a

  pub list_refused : (k : ℕ) → ListMeans w l (refuses k) l' → FirstApplies listing_rules k × (l' ≡ l)
  list_refused k h = go h.reply h.allowed h.answer h.buffer
    where
      go : (a : Reply (List ℕ)) → Allowed a → refuses k ≡ count_of a → l' ≡ buffer_after a l → FirstApplies listing_rules k × (l' ≡ l)
      go (refuses j) allowed e buffer = let same : j ≡ k = cc in (rw (← same) allowed, buffer)
      go (grants ns) allowed e buffer = absurd (zero_one cc)

  -- granted: h numbers are written, those of the held circuits and no other, rising; the words past them keep theirs
  abbrev Written : ℕ → List ℕ → Type 0
  Written h ns =
      (h ≡ length ns)
      × (l' ≡ ns ++ drop (length ns) l)
      × (length ns ≡ length (station w).held)
      × ((c : ℕ) → memb c ns ≡ holds (station w).held c)
      × Rising ns

  pub list_granted : (h : ℕ) → ListMeans w l (grants h) l' → Passes listing_rules × ((ns : List ℕ) × Written h ns)
  list_granted h m = go m.reply m.allowed m.answer m.buffer
    where
      go : (a : Reply (List ℕ)) → Allowed a → grants h ≡ count_of a → l' ≡ buffer_after a l → Passes listing_rules × ((ns : List ℕ) × Written h ns)
      go (refuses j) allowed e buffer = absurd (zero_one cc)
      go (grants ns) allowed e buffer =
          (allowed.0, (ns, (cc, buffer, allowed.1.count, allowed.1.held, allowed.1.rising)))

-- each part of a right listing can fail alone: one number fewer than circuits, a number that is not held, a falling
-- pair, a number twice
pub count_fails : ListsHeld (seven ∷ seven ∷ []) (7 ∷ []) → ⊥
count_fails h = omega (arith, h.count)

pub held_fails : ListsHeld (seven ∷ []) (8 ∷ []) → ⊥
held_fails h = true≢false (h.held 8)

pub rising_fails : ListsHeld (eight ∷ seven ∷ []) (8 ∷ 7 ∷ []) → ⊥
rising_fails h = omega (arith, h.rising.0.0)

pub once_fails : ListsHeld (seven ∷ seven ∷ []) (7 ∷ 7 ∷ []) → ⊥
once_fails h = omega (arith, h.rising.0.0)

-- ---- what is untouched, at the ends of its ranges: n, m, words 3 and 1,282, and word 3,459, the first past 3,458
module _ (w w' : List ℕ) (h : Untouched w w') where
  pub untouched_words : (get_or w' 0 0 ≡ get_or w 0 0)
      × (get_or w' 1 0 ≡ get_or w 1 0)
      × (get_or w' 3 0 ≡ get_or w 3 0)
      × (get_or w' 1282 0 ≡ get_or w 1282 0)
      × (get_or w' 3459 0 ≡ get_or w 3459 0)
      × (length w' ≡ length w)
  untouched_words =
      (h.nodes, h.links, h.table 3 (omega arith) (omega arith), h.table 1282 (omega arith) (omega arith), h.past 3459 (omega arith), h.long)

  -- and every word between and past them
  pub untouched_between : (i : ℕ) → 3 ≤ i → i ≤ 1282 → get_or w' i 0 ≡ get_or w i 0
  untouched_between i low high = h.table i low (omega arith)

  pub untouched_past : (i : ℕ) → 3458 < i → get_or w' i 0 ≡ get_or w i 0
  untouched_past i high = h.past i (omega arith)

  -- among them each node's hold time
  pub untouched_holds : (v : ℕ) → get_or w' (3459 + v) 0 ≡ get_or w (3459 + v) 0
  untouched_holds v = h.past (3459 + v) (omega arith)
