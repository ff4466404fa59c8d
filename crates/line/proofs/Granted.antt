-- What a C caller relies on: a call gives 0 only where it was granted, and else the number of a refusal that left the answer
-- array as it was. A refusal by a call's checks has a number over 0 by the definition of `checked`, and every rule by which
-- quote, admission, release, all jobs in one call, listing, the check of a class table and the class call are refused has one. That a grant gives 0
-- is how the codes are defined.
-- Assumes nothing.
use Prim.Native.Nat.{ℕ, zero, suc, ◌<◌}
use mathlib.Core.Path.{◌≡◌, refl, sym, subst}
use mathlib.Core.Bool.{Bool, true, ◌&&◌}
use mathlib.Core.List.{List, [], ◌∷◌, ◌++◌}
use mathlib.Core.Logic.{inl, inr}
use native.Mathlib.Omega.{arith}
use lib.Dec.{ltb}
use lib.ListN.{length}
use borrow.Author.Tests.{ltb-true}
use Rattle.network.specs.declared.Request.{Request}
use Rattle.network.specs.declared.Grant.{Grant as Numbers}
use Rattle.network.specs.declared.Terms.{Terms}
use Rattle.network.specs.Reduce.{problem_number}
use Rattle.network.proofs.Tests.{fst_of, snd_of, zero_one}
use Rattle.area.specs.Station.{station}
use Rattle.area.specs.Books.{free}
use Rattle.area.specs.Held.{ListsHeld}
use Rattle.area.specs.Formed.{WellFormed}
use Rattle.area.specs.Refusals.{Rule, ◌when◌, FirstApplies, Reply, refuses, grants, Answered}
use Rattle.area.specs.Checks.{Check, first_failing, unless_refused, checked}
use Rattle.area.specs.Load.{LoadInput, load_checks, load_answer}
use Rattle.area.specs.Reads.{count_of, list_rules, ListMeans, free_checks, free_answer}
use Rattle.rules.specs.ClassTable.{ClassTable}
use Rattle.rules.specs.AdmitJobs.{OneForEach, jobs_rules, JobsMean}
use Rattle.rules.specs.Classes.{table_rules, class_rules, CheckMeans, ClassMeans}
use Rattle.rules.specs.Replies.{PathGrant, PathReply, answer_of}
use Rattle.rules.specs.Allowed.{Grant, search_rules, number_rules, release_rules}
use Rattle.rules.specs.Meaning.{books_in, quote_rules, net_for, QuoteMeans, AdmissionMeans, ReleaseMeans}
use Rattle.link_format.specs.declared.Size.{Size}
use Rattle.link_format.specs.Reading.{read_checks, read_answer, links_in as file_links, nodes_in}
use Rattle.line.specs.Codes.{code, words_after, grant_words, value_words, terms_words}
use Rattle.line.specs.Meaning.{Tells, TellsWords, QuoteTells, AdmissionTells, ReleaseTells, JobsTell, ListTells, CheckTells, ClassTells}

-- ---- a list of checks
-- a refusal's code is its number, which is over 0: the code 0 comes past the checks
past_checks : {A : Type 0} (cs : List Check) (a : A) → code (checked refuses cs (grants a)) ≡ 0 → checked refuses cs (grants a) ≡ grants a
unfolding code
past_checks {A = A} cs a = go (first_failing cs)
  where
    go : (n : ℕ) → code (unless_refused {A = Reply A} refuses (grants a) n) ≡ 0 → unless_refused {A = Reply A} refuses (grants a) n ≡ grants a
    go zero e = refl
    go (suc k) e = absurd (omega (arith, e))

pub load_granted : (w : List ℕ) (input : LoadInput) → code (load_answer w input) ≡ 0 → load_answer w input ≡ grants tt
unfolding load_answer
load_granted w input = past_checks (load_checks w input) tt

pub free_granted : (w : List ℕ) (i : ℕ) → code (free_answer w i) ≡ 0 → free_answer w i ≡ grants (free (station w) i)
unfolding free_answer
free_granted w i = past_checks (free_checks w i) (free (station w) i)

pub file_granted : (f : List ℕ) (table : ℕ) → code (read_answer f table) ≡ 0
    → read_answer f table ≡ grants (record { nodes = nodes_in f; links = file_links f })
unfolding read_answer
file_granted f table = past_checks {A = Size} (read_checks f table) (record { nodes = nodes_in f; links = file_links f })

-- ---- quote, admission, release, listing and the calls on class tables, by what their C functions' clauses `means` say of code,
-- words and array
-- every rule's number is over 0
abbrev over_zero : List Rule → Bool
over_zero [] = true
over_zero (r ∷ rs) = ltb 0 r.number && over_zero rs

-- and so is the number by which a call is refused
refused_over : (rs : List Rule) → over_zero rs ≡ true → (k : ℕ) → FirstApplies rs k → 0 < k
refused_over [] over k h = absurd h
refused_over (r ∷ rs) over k (inl h) = omega (arith, ltb-true 0 r.number (fst_of (ltb 0 r.number) _ over), h.1)
refused_over (r ∷ rs) over k (inr h) = refused_over rs (snd_of (ltb 0 r.number) _ over) k h.1

-- an answer of which P holds, where P holds of no refusal with 0: the code 0 tells a grant, and another code is the number of a
-- refusal
module _ {A : Type 0} (P : Reply A → Type 0) where
  granted_tells : ((k : ℕ) → P (refuses k) → 0 < k) → Tells P 0 → (a : A) × P (grants a)
  unfolding code
  granted_tells over h = go h.answer h.means h.is
    where
      go : (said : Reply A) → P said → 0 ≡ code said → (a : A) × P (grants a)
      go (refuses k) means is = absurd (omega (arith, over k means, is))
      go (grants a) means is = (a, means)

  refused_tells : (k : ℕ) → 0 < k → Tells P k → P (refuses k)
  unfolding code
  refused_tells k some h = go h.answer h.means h.is
    where
      go : (said : Reply A) → P said → k ≡ code said → P (refuses k)
      go (refuses j) means is = subst (λ (i : ℕ). P (refuses i)) (sym is) means
      go (grants a) means is = absurd (omega (arith, some, is))

  -- what is granted stands in the array, which a refusal leaves as it was
  module _ (words : A → List ℕ) (v v' : List ℕ) where
    granted_words : ((k : ℕ) → P (refuses k) → 0 < k) → TellsWords words P 0 v v' → (a : A) × P (grants a) × (v' ≡ words a)
    unfolding code words_after
    granted_words over h = go h.answer h.means h.is h.array
      where
        go : (said : Reply A) → P said → 0 ≡ code said → v' ≡ words_after words said v → (a : A) × P (grants a) × (v' ≡ words a)
        go (refuses k) means is array = absurd (omega (arith, over k means, is))
        go (grants a) means is array = (a, means, array)

    refused_words : (k : ℕ) → 0 < k → TellsWords words P k v v' → P (refuses k) × (v' ≡ v)
    unfolding code words_after
    refused_words k some h = go h.answer h.means h.is h.array
      where
        go : (said : Reply A) → P said → k ≡ code said → v' ≡ words_after words said v → P (refuses k) × (v' ≡ v)
        go (refuses j) means is array = (subst (λ (i : ℕ). P (refuses i)) (sym is) means, array)
        go (grants a) means is array = absurd (omega (arith, some, is))

-- no request's reply by such rules says a refusal with 0
path_over : (G : PathGrant → Type 0) (rs : List Rule) → over_zero rs ≡ true → (a : PathReply) → Answered G rs a
    → (k : ℕ) → refuses k ≡ answer_of a
    → 0 < k
unfolding answer_of
path_over G rs over (refuses j) h k e = let same : k ≡ j = cc in omega (arith, refused_over rs over j h, same)
path_over G rs over (grants b) h k e = absurd (zero_one cc)

module _ (w : List ℕ) (work : ℕ) (l v : List ℕ) (r : Request) (l' v' : List ℕ) where
  quote_over : (k : ℕ) → QuoteMeans w work l r (refuses k) l' → 0 < k
  quote_over k h =
      path_over (Grant (net_for w r) r) (quote_rules w work (length l) r ++ search_rules (net_for w r) r) refl h.reply h.allowed k h.answer

  pub quote_granted : QuoteTells w work l v r 0 l' v'
      → (g : Numbers) × QuoteMeans w work l r (grants g) l' × (v' ≡ problem_number g.problem ∷ g.delay ∷ g.cost ∷ g.links ∷ [])
  unfolding grant_words
  quote_granted = granted_words _ grant_words v v' quote_over

  pub quote_refused : (k : ℕ) → 0 < k → QuoteTells w work l v r k l' v' → QuoteMeans w work l r (refuses k) l' × (v' ≡ v)
  quote_refused = refused_words _ grant_words v v'

  module _ (c : ℕ) (w' : List ℕ) where
    admission_over : (k : ℕ) → AdmissionMeans w work l c r (refuses k) l' w' → 0 < k
    admission_over k h =
        path_over (Grant (net_for w r) r) (quote_rules w work (length l) r ++ number_rules (books_in w) c ++ search_rules (net_for w r) r) refl
        h.reply h.allowed k h.answer

    pub admission_granted : AdmissionTells w work l v c r 0 l' v' w'
        → (g : Numbers) × AdmissionMeans w work l c r (grants g) l' w'
        × (v' ≡ problem_number g.problem ∷ g.delay ∷ g.cost ∷ g.links ∷ [])
    unfolding grant_words
    admission_granted = granted_words _ grant_words v v' admission_over

    pub admission_refused : (k : ℕ) → 0 < k → AdmissionTells w work l v c r k l' v' w'
        → AdmissionMeans w work l c r (refuses k) l' w' × (v' ≡ v)
    admission_refused = refused_words _ grant_words v v'

module _ (w : List ℕ) (c : ℕ) (w' : List ℕ) where
  release_over : (k : ℕ) → ReleaseMeans w c (refuses k) w' → 0 < k
  release_over k h = refused_over ((5 when (WellFormed w → ⊥)) ∷ release_rules (books_in w) c) refl k h.allowed

  pub release_granted : ReleaseTells w c 0 w' → ReleaseMeans w c (grants tt) w'
  release_granted h = (granted_tells _ release_over h).1

  pub release_refused : (k : ℕ) → 0 < k → ReleaseTells w c k w' → ReleaseMeans w c (refuses k) w'
  release_refused = refused_tells _

-- nor does a count of what such rules grant
count_over : {A : Type 0} (G : List A → Type 0) (rs : List Rule) → over_zero rs ≡ true → (a : Reply (List A)) → Answered G rs a
    → (k : ℕ) → refuses k ≡ count_of a
    → 0 < k
count_over G rs over (refuses j) h k e = let same : k ≡ j = cc in omega (arith, refused_over rs over j h, same)
count_over G rs over (grants l) h k e = absurd (zero_one cc)

module _ (w : List ℕ) (work : ℕ) (words l v l' v' w' : List ℕ) where
  jobs_over : (k : ℕ) → JobsMean w work words l (refuses k) l' w' → 0 < k
  jobs_over k h = count_over (OneForEach words) (jobs_rules w work words (length l)) refl h.reply h.allowed k h.answer

  pub jobs_granted : JobsTell w work words l v 0 l' v' w' → (n : ℕ) × JobsMean w work words l (grants n) l' w' × (v' ≡ n ∷ [])
  unfolding value_words
  jobs_granted = granted_words _ value_words v v' jobs_over

  pub jobs_refused : (k : ℕ) → 0 < k → JobsTell w work words l v k l' v' w' → JobsMean w work words l (refuses k) l' w' × (v' ≡ v)
  jobs_refused = refused_words _ value_words v v'

module _ (w l v l' v' : List ℕ) where
  list_over : (k : ℕ) → ListMeans w l (refuses k) l' → 0 < k
  list_over k h = count_over (ListsHeld (station w).held) (list_rules w (length l)) refl h.reply h.allowed k h.answer

  pub list_granted : ListTells w l v 0 l' v' → (h : ℕ) × ListMeans w l (grants h) l' × (v' ≡ h ∷ [])
  unfolding value_words
  list_granted = granted_words _ value_words v v' list_over

  pub list_refused : (k : ℕ) → 0 < k → ListTells w l v k l' v' → ListMeans w l (refuses k) l' × (v' ≡ v)
  list_refused = refused_words _ value_words v v'

module _ (rows : List ℕ) where
  pub check_granted : CheckTells rows 0 → ClassTable rows
  check_granted t = (granted_tells (CheckMeans rows) (refused_over (table_rules rows) refl) t).1

  pub check_refused : (k : ℕ) → 0 < k → CheckTells rows k → FirstApplies (table_rules rows) k
  check_refused = refused_tells (CheckMeans rows)

  module _ (c : ℕ) (v v' : List ℕ) where
    pub class_granted : ClassTells rows c v 0 v' → (s : Terms) × ClassMeans rows c (grants s)
        × (v' ≡ s.units ∷ s.delay_bound ∷ s.cost_bound ∷ s.coefficient ∷ [])
    unfolding terms_words
    class_granted = granted_words (ClassMeans rows c) terms_words v v' (refused_over (class_rules rows c) refl)

    pub class_refused : (k : ℕ) → 0 < k → ClassTells rows c v k v' → FirstApplies (class_rules rows c) k × (v' ≡ v)
    class_refused = refused_words (ClassMeans rows c) terms_words v v'
