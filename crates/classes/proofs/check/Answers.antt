-- Past the words' count the rows decide: what their test says, their ranges are.
use Rattle.std.proofs.Common.{◌≡◌, refl, sym, ◌∙◌, inl, inr, false, true≢false, arith}
use Rattle.rules.specs.ClassTable.{WholeRows, rows_fit}
use Rattle.rules.proofs.ClassTable.{rows_says, rows_test}
use Rattle.classes.proofs.check.Goals as goal

pub returns-clause-means : goal.returns-clause-means
returns-clause-means c =
    record {
      counted = record { some = grind arith; few = grind arith; whole = c.if-rows-ne0.false };
      each = rows_says c.args.rows.now (cc);
    }

pub returns-then-not-rows_fit-clause-means : goal.returns-then-not-rows_fit-clause-means
returns-then-not-rows_fit-clause-means c =
    let whole : WholeRows c.args.rows.now = record { some = grind arith; few = grind arith; whole = c.if-rows-ne0.false } in
    let out : rows_fit c.args.rows.now ≡ false = cc in
    inr (λ lacks. lacks whole, inl (λ fit. true≢false (sym (rows_test c.args.rows.now fit) ∙ out), refl))
