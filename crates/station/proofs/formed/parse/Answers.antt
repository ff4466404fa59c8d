-- The first part that fails makes the area not well formed; past the table the circuits and their units decide.
use Rattle.std.proofs.Common.{◌≡◌, true, is_some, IfSome, arith, refl, sym, ◌∙◌}
use Rattle.std.specs.declared.option.Option.{Option}
use Rattle.std.specs.declared.option.Option.TheVariants.{None, Some}
use Rattle.area.proofs.CheckCases.{area_short, table_out, circuits_many, circuits_left, units_left}
use Rattle.station.proofs.formed.parse.Goals as goal

pub returns-then-area-lt-AREA_WORDS-clause-formed : goal.returns-then-area-lt-AREA_WORDS-clause-formed
returns-then-area-lt-AREA_WORDS-clause-formed c = area_short c.args.area.now (omega arith)

pub returns-in_err-table-clause-formed : goal.returns-in_err-table-clause-formed
returns-in_err-table-clause-formed c =
    rw c.from_residual.ensures (table_out c.args.area.now (omega arith) c.in_err-table.ensures.fits)

pub returns-then-count-gt-MOST_CIRCUITS-clause-formed : goal.returns-then-count-gt-MOST_CIRCUITS-clause-formed
returns-then-count-gt-MOST_CIRCUITS-clause-formed c =
    circuits_many c.args.area.now (omega arith) c.in_ok-table.ensures.fits (omega arith)

pub returns-clause-formed : goal.returns-clause-formed
returns-clause-formed c =
    c.free_units.ensures.fit
    ∙ circuits_left c.args.area.now (omega arith) c.in_ok-table.ensures.fits (omega arith) _ _ _ c.in_ok-table.ensures.count
    c.in_ok-table.ensures.words refl

-- what a value has by being there
some_then : {A : Type 0} (o : Option A) {P Q : A → Type 0} → IfSome o P → ((a : A) → is_some o ≡ true → P a → Q a) → IfSome o Q
some_then None p then = tt
some_then (Some a) p then = then a refl p

pub returns-clause-units : goal.returns-clause-units
returns-clause-units c =
    let formed =
    c.free_units.ensures.fit
    ∙ circuits_left c.args.area.now (omega arith) c.in_ok-table.ensures.fits (omega arith) _ _ _ c.in_ok-table.ensures.count
    c.in_ok-table.ensures.words refl in
    some_then c.free_units.result c.free_units.ensures.free
    (λ free is counted i.
    counted i
    ∙ units_left c.args.area.now (omega arith) c.in_ok-table.ensures.fits (omega arith) _ _ _ c.in_ok-table.ensures.count
    c.in_ok-table.ensures.words refl (sym is ∙ formed) i)
