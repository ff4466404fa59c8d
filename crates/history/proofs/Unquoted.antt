-- The second run's text is the first one's without the lines of the quotes: of the first run's answers those remain that
-- are to no quote, since the second run makes none.
-- Assumes nothing.
use Prim.Native.Nat.{ℕ, zero, suc}
use mathlib.Core.Path.{◌≡◌, refl, sym, ap, ◌∙◌}
use mathlib.Core.Bool.{Bool, true, false, cond}
use mathlib.Core.List.{List, [], ◌∷◌, ◌++◌}
use Rattle.network.specs.Lists.{All}
use Rattle.network.proofs.Tests.{by_bool}
use Rattle.area.specs.Refusals.{grants}
use Rattle.area.specs.Load.{load_answer, area_loaded}
use Rattle.ledger.specs.Entries.{Call, quoting, admitting, releasing, admitting_jobs}
use Rattle.ledger.specs.History.{Lending, measured, Given, answers, Struck, end, strike, keep, remaining}
use Rattle.cases.specs.Document01.{links_a, unheld}
use Rattle.cases.specs.declared.Asked.TheVariants.{Quote, Admission}
use Rattle.call_list.specs.declared.Row.{Row}
use Rattle.call_list.specs.declared.Row.TheVariants.{Asks, Releases, Opens}
use Rattle.call_list.specs.Calls.{row_count, row_at, is_quote, lent, calls_from, calls}
use Rattle.call_list.proofs.Runs.{struck_calls, accepted_agree}
use Rattle.history.specs.Lines.{line_of, lines_of, unquoted_lines, rows_from, rows_made, run_text}

-- ---- the calls that are quotes
abbrev quotes : {Lent : Type 0} → Call Lent → Bool
quotes (quoting work path r) = true
quotes (admitting work path c r) = false
quotes (releasing c) = false
quotes (admitting_jobs work jobs answers) = false

-- by its numbers and lengths alone
quotes_measured : (c : Lending) → quotes (measured c) ≡ quotes c
quotes_measured (quoting work path r) = refl
quotes_measured (admitting work path c r) = refl
quotes_measured (releasing c) = refl
quotes_measured (admitting_jobs work jobs answers) = refl

-- a row's call is one where the row is a quote
quotes_lent : (struck : Bool) (k : ℕ) (r : Row) → quotes (lent struck k r) ≡ is_quote r
unfolding lent
quotes_lent struck k (Asks (Quote r) l) = refl
quotes_lent struck k (Asks (Admission c r) l) = refl
quotes_lent struck k (Releases c) = refl
quotes_lent struck k (Opens l) = refl

-- the second run makes none
abbrev NoQuotes : List Lending → Type 0
NoQuotes cs = All (λ c. quotes c ≡ false) cs

none_first : (k : ℕ) (r : Row) (cs : List Lending) → NoQuotes cs → NoQuotes (cond (is_quote r) [] (lent true k r ∷ []) ++ cs)
none_first k r cs none = by_bool (is_quote r) (λ q. rw q none) (λ q. rw q (quotes_lent true k r ∙ q, none))

no_quotes : (k n : ℕ) → NoQuotes (calls_from true k n)
unfolding calls_from
no_quotes k zero = tt
no_quotes k (suc n) = none_first k (row_at k) _ (no_quotes (suc k) n)

-- ---- of the answers to calls, those to no quote
abbrev unquoted : List Lending → List Given → List Given
unquoted [] l = []
unquoted (c ∷ cs) [] = []
unquoted (c ∷ cs) (a ∷ l) = cond (quotes c) (unquoted cs l) (a ∷ unquoted cs l)

-- they are those that remain where no quote does
remain_unquoted : {cs ds : List Lending} (s : Struck cs ds) → NoQuotes ds → (l : List Given) → remaining s l ≡ unquoted cs l
remain_unquoted end none l = refl
remain_unquoted (strike s) none [] = refl
remain_unquoted (strike s) none (a ∷ l) = remain_unquoted s none l
remain_unquoted (keep e s) none [] = refl
remain_unquoted (keep {c} {d} e s) none (a ∷ l) =
    let other : quotes c ≡ false = sym (quotes_measured c) ∙ ap quotes e ∙ quotes_measured d ∙ none.0 in
    rw other (ap (λ (m : List Given). a ∷ m) (remain_unquoted s none.1 l))

-- ---- their lines
no_answers : (ks : List ℕ) → lines_of ks [] ≡ []
unfolding lines_of
no_answers [] = refl
no_answers (k ∷ ks) = refl

-- a quote's line and its answer are left out together
one_more : (quote : Bool) (k : ℕ) (a : Given) (ks : List ℕ) (gs : List Given) (m : List ℕ) → lines_of ks gs ≡ m
    → lines_of (cond quote ks (k ∷ ks)) (cond quote gs (a ∷ gs)) ≡ cond quote m (line_of k a ++ m)
unfolding lines_of
one_more true k a ks gs m e = e
one_more false k a ks gs m e = ap (λ (rest : List ℕ). line_of k a ++ rest) e

lines_unquoted : (k n : ℕ) (l : List Given)
    → lines_of (rows_from true k n) (unquoted (calls_from false k n) l) ≡ unquoted_lines (rows_from false k n) l
unfolding rows_from lines_of unquoted_lines calls_from
lines_unquoted k zero l = refl
lines_unquoted k (suc n) [] = no_answers (rows_from true k (suc n))
lines_unquoted k (suc n) (a ∷ l) =
    rw (quotes_lent false k (row_at k)) (one_more (is_quote (row_at k)) k a _ _ _ (lines_unquoted (suc k) n l))

-- ---- the second run
pub text_again : (w v : List ℕ) → load_answer w (unheld links_a) ≡ grants tt → load_answer v (unheld links_a) ≡ grants tt
    → run_text true (area_loaded v (unheld links_a)) ≡ unquoted_lines (rows_made false) (answers (area_loaded w (unheld links_a)) (calls false))
unfolding rows_made calls
text_again w v accepted accepted' =
    ap (lines_of (rows_made true))
    ((accepted_agree w v accepted accepted').0 ∙ remain_unquoted (struck_calls 0 row_count) (no_quotes 0 row_count) (answers (area_loaded w (unheld links_a)) (calls false)))
    ∙ lines_unquoted 0 row_count (answers (area_loaded w (unheld links_a)) (calls false))
