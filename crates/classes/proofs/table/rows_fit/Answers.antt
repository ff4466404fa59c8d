-- The rows are looked at from the first on, and the first that does not fit ends it.
use Rattle.std.proofs.Common.{◌≡◌, ◌∷◌, ◌++◌, ℕ, List, [], suc, zero, refl, ap, ◌∙◌, ◌+◌, Bool, rules, tests, arith}
use mathlib.Core.Bool.{and-true}
use Rattle.std.specs.List.{list_all, range_with_len}
use Rattle.std.proofs.lemmas.Iterator.{YieldsList-from_range}
use Rattle.std.proofs.lemmas.Iterator.Search.{all_from_yields_List}
use Rattle.std.proofs.lemmas.List.Folds.{list_all-append}
use Rattle.network.specs.Loops.{every}
use Rattle.rules.specs.ClassTable.{rows_in, row_at, row_fits, rows_fit}
use Rattle.classes.proofs.table.rows_fit.Goals as goal

last : (a n j : ℕ) → a + n ≡ j → range_with_len a (suc n) ≡ range_with_len a n ++ j ∷ []
last a zero j e = let same : a ≡ j = omega arith in ap (λ (k : ℕ). k ∷ []) same
last a (suc n) j e = ap (λ (l : List ℕ). a ∷ l) (last (a + 1) n j (omega arith))

-- std's test of the numbers below n is ours
all_every : (f : ℕ → Bool) (n : ℕ) → list_all f (range_with_len 0 n) ≡ every f n
unfolding every
all_every f zero = refl
all_every f (suc n) =
    ap (list_all f) (last 0 n n (omega arith)) ∙ list_all-append f (range_with_len 0 n) (n ∷ []) ∙ rw (all_every f n, and-true) refl

pub returns : goal.returns
unfolding rows_fit
returns c =
    all_from_yields_List (λ k. row_fits (row_at c.args.rows.now k)) _ _ c.all.result c.all.ensures.ran
    (YieldsList-from_range 0 (rows_in c.args.rows.now) (rows_in c.args.rows.now) (cc) (omega arith)) (λ x b q k. search (rules, tests))
    ∙ all_every _ (rows_in c.args.rows.now)
