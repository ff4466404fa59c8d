-- The sample table is a class table with document 01's six rows.
-- Assumes nothing.
use mathlib.Core.Path.{◌≡◌, refl}
use mathlib.Core.List.{List, [], ◌∷◌}
use Prim.Native.Nat.{ℕ, zero, suc}
use Rattle.network.specs.declared.Terms.{Terms}
use Rattle.area.specs.Refusals.{grants}
use Rattle.rules.specs.ClassTable.{rows_in, row_at}
use Rattle.rules.specs.Classes.{check_answer}
use Rattle.rules.specs.SampleClasses.{sample_rows, sample}

pub sample_accepted : check_answer sample ≡ grants tt
unfolding check_answer
sample_accepted = refl

-- c rows from row k on
abbrev pub rows_from : List ℕ → ℕ → ℕ → List Terms
rows_from words k zero = []
rows_from words k (suc c) = row_at words k ∷ rows_from words (suc k) c

pub sample_rows_lem : rows_from sample 0 (rows_in sample) ≡ sample_rows
sample_rows_lem = refl
