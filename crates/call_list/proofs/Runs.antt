-- The two runs of the program `history`, as histories: the second list is the first with its quotes struck, and Load
-- accepts net A.
-- Assumes nothing.
use Prim.Native.Nat.{ℕ, zero, suc, ◌≤◌}
use mathlib.Core.Path.{◌≡◌, refl, sym, ap, ap₂, ◌∙◌}
use mathlib.Core.Bool.{Bool, true, false, cond}
use mathlib.Core.List.{List, [], ◌∷◌, ◌++◌}
use native.Mathlib.Omega.{arith}
use lib.ListN.{length, take, replicate, length-take, length-replicate}
use Rattle.network.specs.Limits.{path_words, work_words}
use Rattle.network.proofs.Tests.{by_bool}
use Rattle.area.specs.Refusals.{grants}
use Rattle.area.specs.Layout.{area_words}
use Rattle.network.specs.Loops.{every}
use Rattle.area.specs.Formed.{links_fit, hold_times_fit}
use Rattle.area.specs.Station.{held_words}
use Rattle.area.specs.Load.{load_answer, area_loaded}
use Rattle.area.proofs.LoadCases.{all_pass}
use Rattle.ledger.specs.Entries.{admitting_jobs}
use Rattle.ledger.specs.History.{Lending, measured, answers, area_at_end, bookings, Struck, end, strike, keep, remaining}
use Rattle.ledger.proofs.Demands.{third_demand}
use Rattle.cases.specs.Document01.{links_a, unheld}
use Rattle.cases.specs.declared.Asked.{Asked}
use Rattle.cases.specs.declared.Asked.TheVariants.{Quote, Admission}
use Rattle.call_list.specs.declared.Lent.{Lent}
use Rattle.call_list.specs.declared.Row.{Row}
use Rattle.call_list.specs.declared.Row.TheVariants.{Asks, Releases, Opens}
use Rattle.call_list.specs.Calls.{row_count, jobs, row_at, is_quote, calling, work_lent, path_lent, answers_lent, most_answers, work_filler, buffer_filler, filled_work, filled_path, filled_answers, lent, calls_from, calls}

-- ---- a request's call
-- measured, it goes by the lengths of what it is lent
measured_calling : (a : Asked) (work path : List ℕ) → measured (calling a work path) ≡ calling a (length work) (length path)
measured_calling (Quote r) work path = refl
measured_calling (Admission c r) work path = refl

-- ---- the same row in the two runs
-- it is lent as many words
length_lent : (m n a b : ℕ) → length (take m (replicate n a)) ≡ length (take m (replicate n b))
length_lent m n a b = simp (length-take, length-replicate)

work_length : (k : ℕ) (l : Lent) → length (filled_work false k l) ≡ length (filled_work true k l)
unfolding filled_work
work_length k l = length_lent (work_lent l) work_words (work_filler false k) (work_filler true k)

path_length : (l : Lent) → length (filled_path false l) ≡ length (filled_path true l)
unfolding filled_path
path_length l = length_lent (path_lent l) path_words (buffer_filler false) (buffer_filler true)

answers_length : (l : Lent) → length (filled_answers false l) ≡ length (filled_answers true l)
unfolding filled_answers
answers_length l = length_lent (answers_lent l) most_answers (buffer_filler false) (buffer_filler true)

measured_lent : (k : ℕ) (r : Row) → measured (lent false k r) ≡ measured (lent true k r)
unfolding lent
measured_lent k (Asks a l) =
    measured_calling a _ _
    ∙ ap (λ (n : ℕ). calling a n (length (filled_path false l))) (work_length k l)
    ∙ ap (calling a (length (filled_work true k l))) (path_length l)
    ∙ sym (measured_calling a _ _)
measured_lent k (Releases c) = refl
measured_lent k (Opens l) = ap₂ (λ (n m : ℕ). admitting_jobs n jobs m) (work_length k l) (answers_length l)

-- so the second run's list is the first one's, with its quotes struck
struck_quote : (k : ℕ) (r : Row) (cs ds : List Lending) → is_quote r ≡ true → Struck cs ds → Struck (lent false k r ∷ cs) ds
unfolding lent
struck_quote k (Asks (Quote r) l) cs ds e s = strike s
struck_quote k (Asks (Admission c r) l) cs ds e s = absurd (cc)
struck_quote k (Releases c) cs ds e s = absurd (cc)
struck_quote k (Opens l) cs ds e s = absurd (cc)

struck_call : (k : ℕ) (r : Row) (cs ds : List Lending) → Struck cs ds
    → Struck (lent false k r ∷ cs) (cond (is_quote r) [] (lent true k r ∷ []) ++ ds)
struck_call k r cs ds s =
    by_bool (is_quote r) (λ e. rw e (struck_quote k r cs ds e s)) (λ e. rw e (keep (measured_lent k r) s))

pub struck_calls : (k n : ℕ) → Struck (calls_from false k n) (calls_from true k n)
unfolding calls_from
struck_calls k zero = end
struck_calls k (suc n) = struck_call k (row_at k) _ _ (struck_calls (suc k) n)

-- ---- the load
pub load_accepts : (w : List ℕ) → area_words ≤ length w → load_answer w (unheld links_a) ≡ grants tt
unfolding links_fit hold_times_fit every
load_accepts w long = sym (all_pass w (unheld links_a) long refl refl (omega arith) refl refl).0

-- ---- the two runs
abbrev pub end_of : Bool → List ℕ → List ℕ
end_of struck w = area_at_end (area_loaded w (unheld links_a)) (calls struck)

module _ (w v : List ℕ) where
  -- the answers of the second run are the remaining ones of the first, and the bookings at the end are the same, in the same
  -- words
  abbrev pub Agree : Type 0
  Agree =
      (answers (area_loaded v (unheld links_a)) (calls true) ≡ remaining (struck_calls 0 row_count) (answers (area_loaded w (unheld links_a)) (calls false)))
      × (bookings (end_of true v) ≡ bookings (end_of false w))
      × (held_words (end_of true v) ≡ held_words (end_of false w))

  pub accepted_agree : load_answer w (unheld links_a) ≡ grants tt → load_answer v (unheld links_a) ≡ grants tt → Agree
  unfolding calls
  accepted_agree accepted accepted' =
      (third_demand (unheld links_a) w accepted (calls false)).struck v accepted' (calls true) (struck_calls 0 row_count)

  -- on any two areas that are long enough
  pub runs_agree : area_words ≤ length w → area_words ≤ length v → Agree
  runs_agree long long' = accepted_agree (load_accepts w long) (load_accepts v long')

  -- of the areas w' and v' that the program leaves
  pub same_bookings : (w' v' : List ℕ) → load_answer w (unheld links_a) ≡ grants tt → load_answer v (unheld links_a) ≡ grants tt → w' ≡ end_of false w → v' ≡ end_of true v
      → (bookings v' ≡ bookings w') × (held_words v' ≡ held_words w')
  same_bookings w' v' accepted accepted' e f =
      let both = accepted_agree accepted accepted' in
      rw (e, f) (both.1, both.2)
