-- What a call of the list leaves, one law for each return of the functions of `history` that make it.
-- Assumes nothing.
use Prim.Native.Nat.{ℕ, suc, ◌+◌, ◌-◌, ◌*◌, ◌≤◌, ◌<◌}
use mathlib.Core.Path.{◌≡◌, refl, sym, ap, ap₂, ◌∙◌}
use mathlib.Core.Bool.{Bool, true, false, ◌&&◌}
use mathlib.Core.List.{List, [], ◌∷◌, ◌++◌}
use native.Mathlib.Omega.{arith}
use lib.ListN.{length, take, replicate}
use Rattle.network.specs.Limits.{path_words, work_words}
use Rattle.network.specs.declared.Grant.{Grant as Numbers}
use Rattle.area.specs.Refusals.{Reply}
use Rattle.area.specs.Reads.{count_of}
use Rattle.rules.specs.Replies.{answer_of, path_after}
use Rattle.rules.specs.Calls.{quote, admission, booked}
use Rattle.rules.specs.AdmitJobs.{answer_words, admit_jobs, jobs_answered}
use Rattle.ledger.specs.Entries.{admitting_jobs}
use Rattle.ledger.specs.History.{Lending, measured, area_after, links_of, jobs_of, Given, of_request, of_jobs, path_given, jobs_given, given_to, area_at_end}
use Rattle.network.specs.declared.Request.{Request}
use Rattle.cases.specs.declared.Asked.{Asked}
use Rattle.cases.specs.declared.Asked.TheVariants.{Quote, Admission}
use Rattle.call_list.specs.declared.Lent.{Lent}
use Rattle.call_list.specs.declared.Row.{Row}
use Rattle.call_list.specs.declared.Row.TheVariants.{Asks, Opens}
use Rattle.call_list.specs.Calls.{row_count, jobs, row_at, is_quote, calling, work_lent, path_lent, most_answers, answers_lent, work_filler, buffer_filler, filled_work, filled_path, filled_answers, lent, call_at, calls_from}

-- ---- a call on an area w: what it gives, and the area w' after
abbrev pub Made : List ℕ → Lending → Given → List ℕ → Type 0
Made w c g w' = (g ≡ given_to w c) × (w' ≡ area_after w (measured c))

-- a request's, by the code's answer `said` and the path buffer p after
module _ (w work path : List ℕ) (a : Asked) (said : Reply Numbers) (p : List ℕ) where
  pub quoted : (r : Request) → a ≡ Quote r → said ≡ answer_of (quote w (length work) (length path) r)
      → p ≡ path_after (quote w (length work) (length path) r) path
      → Made w (calling a work path) (of_request said (take (links_of said) p)) w
  unfolding path_given
  quoted r is e f = rw is (ap₂ (λ (y : Reply Numbers) (l : List ℕ). of_request y (take (links_of y) l)) e f, refl)

  pub admitted : (c : ℕ) (r : Request) → a ≡ Admission c r
      → said ≡ answer_of (admission w (length work) (length path) c r)
      → p ≡ path_after (admission w (length work) (length path) c r) path
      → (w' : List ℕ) → w' ≡ booked w c r.terms.units (admission w (length work) (length path) c r)
      → Made w (calling a work path) (of_request said (take (links_of said) p)) w'
  unfolding path_given
  admitted c r is e f w' g = rw is (ap₂ (λ (y : Reply Numbers) (l : List ℕ). of_request y (take (links_of y) l)) e f, g)

-- all jobs', by the code's answer `said` and the answer buffer l' after
module _ (w work l : List ℕ) (said : Reply ℕ) (l' : List ℕ) where
  pub jobs_made : said ≡ count_of (admit_jobs w (length work) jobs (length l))
      → l' ≡ jobs_answered (admit_jobs w (length work) jobs (length l)) l
      → of_jobs said (take (answer_words * jobs_of said) l') ≡ given_to w (admitting_jobs work jobs l)
  unfolding jobs_given
  jobs_made e f = ap₂ (λ (y : Reply ℕ) (m : List ℕ). of_jobs y (take (answer_words * jobs_of y) m)) e f

-- ---- with the words that it is lent
module _ (struck : Bool) (k : ℕ) (l : Lent) where
  pub work_as : (n word : ℕ) → n ≡ work_lent l → word ≡ work_filler struck k
      → take n (replicate work_words word) ≡ filled_work struck k l
  unfolding filled_work
  work_as n word many is =
      ap (λ (m : ℕ). take m (replicate work_words word)) many ∙ ap (λ (a : ℕ). take (work_lent l) (replicate work_words a)) is

  pub path_as : (n word : ℕ) → n ≡ path_lent l → word ≡ buffer_filler struck → take n (replicate path_words word) ≡ filled_path struck l
  unfolding filled_path
  path_as n word many is =
      ap (λ (m : ℕ). take m (replicate path_words word)) many ∙ ap (λ (a : ℕ). take (path_lent l) (replicate path_words a)) is

  pub answers_as : (n word : ℕ) → n ≡ answers_lent l → word ≡ buffer_filler struck
      → take n (replicate most_answers word) ≡ filled_answers struck l
  unfolding filled_answers
  answers_as n word many is =
      ap (λ (m : ℕ). take m (replicate most_answers word)) many
      ∙ ap (λ (a : ℕ). take (answers_lent l) (replicate most_answers a)) is

  pub lent_as : (a : Asked) (work path : List ℕ) → work ≡ filled_work struck k l → path ≡ filled_path struck l
      → calling a work path ≡ lent struck k (Asks a l)
  unfolding lent
  lent_as a work path e f =
      ap (λ (words : List ℕ). calling a words path) e ∙ ap (calling a (filled_work struck k l)) f

  pub opens_as : (work answers : List ℕ) → work ≡ filled_work struck k l → answers ≡ filled_answers struck l
      → admitting_jobs work jobs answers ≡ lent struck k (Opens l)
  unfolding lent
  opens_as work answers e f = ap₂ (λ (a b : List ℕ). admitting_jobs a jobs b) e f

-- ---- row k of the list
module _ (struck : Bool) (k : ℕ) (r : Row) (is : r ≡ row_at k) where
  -- a quote, and quotes are struck
  pub skipped : (w : List ℕ) → (struck && is_quote r) ≡ true → w ≡ area_at_end w (call_at struck k)
  unfolding call_at
  skipped w q = rw (rw is at q)

  -- or not
  pub called : (w w' : List ℕ) → (struck && is_quote r) ≡ false → w' ≡ area_after w (measured (lent struck k r))
      → w' ≡ area_at_end w (call_at struck k)
  unfolding call_at
  called w w' q e = rw (rw is at q) (rw is at e)

-- ---- the calls that are left
-- one list of calls after another
pub end_append : (w : List ℕ) (cs ds : List Lending) → area_at_end w (cs ++ ds) ≡ area_at_end (area_at_end w cs) ds
end_append w [] ds = refl
end_append w (c ∷ cs) ds = end_append (area_after w (measured c)) cs ds

call_first : (struck : Bool) (k n : ℕ) (w w' : List ℕ) → w' ≡ area_at_end w (call_at struck k)
    → area_at_end w' (calls_from struck (suc k) n) ≡ area_at_end w (calls_from struck k (suc n))
unfolding calls_from
call_first struck k n w w' e =
    ap (λ (v : List ℕ). area_at_end v (calls_from struck (suc k) n)) e
    ∙ sym (end_append w (call_at struck k) (calls_from struck (suc k) n))

-- after the call of row k one fewer is left
pub fewer : (struck : Bool) (k : ℕ) (w w' v : List ℕ) → k < row_count → area_at_end w (calls_from struck k (row_count - k)) ≡ v
    → w' ≡ area_at_end w (call_at struck k)
    → area_at_end w' (calls_from struck (k + 1) (row_count - (k + 1))) ≡ v
fewer struck k w w' v low is e =
    let more : suc (row_count - (k + 1)) ≡ row_count - k = omega arith in
    let next : k + 1 ≡ suc k = omega arith in
    ap (λ (j : ℕ). area_at_end w' (calls_from struck j (row_count - (k + 1)))) next
    ∙ call_first struck k (row_count - (k + 1)) w w' e
    ∙ ap (λ (n : ℕ). area_at_end w (calls_from struck k n)) more
    ∙ is

-- past the last row none is
pub none_left : (struck : Bool) (k : ℕ) (w v : List ℕ) → row_count ≤ k → area_at_end w (calls_from struck k (row_count - k)) ≡ v → w ≡ v
unfolding calls_from
none_left struck k w v high is =
    let none : 0 ≡ row_count - k = omega arith in
    ap (λ (n : ℕ). area_at_end w (calls_from struck k n)) none ∙ is
