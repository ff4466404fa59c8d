-- What the functions of `list` append to the text, and the turns of the loop over the rows.
-- Assumes nothing.
use Prim.Native.Nat.{ℕ, zero, suc, ◌+◌, ◌-◌, ◌*◌, ◌≤◌, ◌<◌, min}
use mathlib.Core.Path.{◌≡◌, refl, sym, ap, ◌∙◌}
use mathlib.Core.Bool.{Bool, true, false, ◌&&◌}
use mathlib.Core.List.{List, [], ◌∷◌, ◌++◌, append_assoc, append-nil}
use native.Mathlib.Numerals.{add-one}
use native.Mathlib.Omega.{arith}
use lib.ListN.{length, take}
use lib.Seq.{take-take}
use Rattle.std.proofs.lemmas.List.{take_min}
use Rattle.network.proofs.Tests.{by_bool}
use Rattle.network.specs.declared.Grant.{Grant as Numbers}
use Rattle.network.specs.Reduce.{problem_number}
use Rattle.area.specs.Refusals.{Reply, refuses, grants}
use Rattle.rules.specs.AdmitJobs.{answer_words}
use Rattle.ledger.specs.History.{measured, area_after, links_of, jobs_of, Given, of_request, of_release, of_jobs, answers, area_at_end}
use Rattle.text_format.specs.Fields.{fields}
use Rattle.answer_lines.specs.Answers.{line_text, answer_text, routed_text, released_text, jobs_text}
use Rattle.call_list.specs.declared.Row.{Row}
use Rattle.call_list.specs.Calls.{row_count, row_at, is_quote, lent, call_at, calls_from, calls}
use Rattle.history.specs.Lines.{given_text, lines_of, rows_from, rows_made, lent_text, row_text, text_from, run_text}

-- ---- what a call gives
-- of a path buffer an answer tells only the words that it counts
words_counted : (said : Reply Numbers) (p : List ℕ) → routed_text said (take (links_of said) p) ≡ routed_text said p
unfolding routed_text
words_counted (refuses number) p = refl
words_counted (grants g) p =
    ap (λ (l : List ℕ). fields (problem_number g.problem ∷ g.delay ∷ g.cost ∷ []) ++ line_text l) (take-take g.links g.links p (omega arith))

-- so with the whole path buffer p after, what is appended is the text of what the call gives
pub request_put : (said : Reply Numbers) (p : List ℕ) (g : Given) → of_request said (take (links_of said) p) ≡ g
    → (t t' : List ℕ) → t' ≡ t ++ routed_text said p → t' ≡ t ++ given_text g
unfolding given_text
request_put said p g e t t' put = put ∙ ap (λ (l : List ℕ). t ++ l) (sym (words_counted said p) ∙ ap given_text e)

pub release_put : (said : Reply (Unit {0})) (g : Given) → of_release said ≡ g
    → (t t' : List ℕ) → t' ≡ t ++ answer_text (λ _. released_text) said → t' ≡ t ++ given_text g
unfolding given_text
release_put said g e t t' put = put ∙ ap (λ (h : Given). t ++ given_text h) e

-- likewise of all jobs in one call, with the answer buffer l after
pub jobs_put : (said : Reply ℕ) (l : List ℕ) (g : Given) → of_jobs said (take (answer_words * jobs_of said) l) ≡ g
    → (n k : ℕ) → n ≡ answer_words * jobs_of said → k ≡ min n (length l)
    → (t t' : List ℕ) → t' ≡ t ++ jobs_text said (take k l) → t' ≡ t ++ given_text g
unfolding given_text
jobs_put said l g e n k many is t t' put =
    put
    ∙ ap (λ (words : List ℕ). t ++ jobs_text said words)
    (ap (λ (i : ℕ). take i l) (is ∙ ap (λ (i : ℕ). min i (length l)) many) ∙ take_min (answer_words * jobs_of said) l)
    ∙ ap (λ (h : Given). t ++ given_text h) e

-- ---- row k of the list
module _ (struck : Bool) (k : ℕ) (r : Row) (is : r ≡ row_at k) (w : List ℕ) where
  -- a quote, and quotes are struck
  pub row_skipped : (struck && is_quote r) ≡ true → (t : List ℕ) → t ≡ t ++ row_text struck w k
  unfolding row_text
  row_skipped q t = rw (rw is at q) (simp append-nil)

  -- or not
  pub row_called : (struck && is_quote r) ≡ false → (t t' : List ℕ) → t' ≡ t ++ lent_text struck w k r → t' ≡ t ++ row_text struck w k
  unfolding row_text
  row_called q t t' put = rw (rw is at q) (rw is at put)

-- ---- a run
module _ (struck : Bool) where
  no_text : (w : List ℕ) (k : ℕ) → text_from struck w k 0 ≡ []
  unfolding text_from
  no_text w k = refl

  more_text : (w : List ℕ) (k n : ℕ)
      → text_from struck w k (suc n) ≡ row_text struck w k ++ text_from struck (area_at_end w (call_at struck k)) (suc k) n
  unfolding text_from
  more_text w k n = refl

-- the text as the run goes is that of its rows with the history's answers
text_lines : (struck : Bool) (w : List ℕ) (k n : ℕ)
    → text_from struck w k n ≡ lines_of (rows_from struck k n) (answers w (calls_from struck k n))
unfolding text_from rows_from lines_of calls_from
text_lines struck w k zero = refl
text_lines struck w k (suc n) =
    by_bool (struck && is_quote (row_at k))
    (λ q. rw q (text_lines struck w (suc k) n))
    (λ q. rw q (ap (λ (rest : List ℕ). lent_text struck w k (row_at k) ++ rest) (text_lines struck (area_after w (measured (lent struck k (row_at k)))) (suc k) n)))

-- ---- the loop of `every_call`: the text, and behind it the lines that are left
-- before the first turn they are all left
pub text_none : (struck : Bool) (w : List ℕ) → text_from struck w 0 (row_count - 0) ≡ run_text struck w
unfolding rows_made calls
text_none struck w = text_lines struck w 0 row_count

pub text_turn : (struck : Bool) (k : ℕ) (w w' t t' done : List ℕ) → k < row_count → w' ≡ area_at_end w (call_at struck k)
    → t' ≡ t ++ row_text struck w k
    → t ++ text_from struck w k (row_count - k) ≡ done → t' ++ text_from struck w' (k + 1) (row_count - (k + 1)) ≡ done
text_turn struck k w w' t t' done low e put left =
    let count : row_count - k ≡ suc (row_count - (k + 1)) = omega arith in
    let one : text_from struck w k (row_count - k) ≡ row_text struck w k ++ text_from struck w' (k + 1) (row_count - (k + 1)) =
    ap (text_from struck w k) count ∙ more_text struck w k (row_count - (k + 1)) ∙ rw (add-one, e) in
    ap (λ (l : List ℕ). l ++ text_from struck w' (k + 1) (row_count - (k + 1))) put
    ∙ append_assoc t (row_text struck w k) (text_from struck w' (k + 1) (row_count - (k + 1)))
    ∙ ap (λ (l : List ℕ). t ++ l) (sym one)
    ∙ left

pub text_end : (struck : Bool) (k : ℕ) (w t done : List ℕ) → row_count ≤ k → t ++ text_from struck w k (row_count - k) ≡ done → t ≡ done
text_end struck k w t done high left =
    let count : row_count - k ≡ 0 = omega arith in
    sym (append-nil t) ∙ ap (λ (l : List ℕ). t ++ l) (sym (ap (text_from struck w k) count ∙ no_text struck w k)) ∙ left
