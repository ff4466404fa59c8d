-- The check of a class table and the class call: what each means, with no algorithm, and what it answers as the code
-- computes it. Both only read the words that they are lent.
-- Assumes nothing.
use Rattle.std.specs.Prelude.{ℕ, ◌≤◌, ◌<◌, ◌≡◌, List, [], ◌∷◌, ◌++◌, ltb}
use Rattle.network.specs.declared.Terms.{Terms}
use Rattle.area.specs.Refusals.{Rule, ◌when◌, FirstApplies, Reply, refuses, grants}
use Rattle.area.specs.Checks.{Check, ◌unless◌, checked}
use Rattle.rules.specs.ClassTable.{rows_in, row_at, WholeRows, RowsFit, ClassTable, whole_rows, rows_fit}

-- ---- what an answer means
-- 20 for the word count, then 21 for a number out of range
abbrev pub table_rules : List ℕ → List Rule
table_rules words = (20 when (WholeRows words → ⊥)) ∷ (21 when (RowsFit words → ⊥)) ∷ []

-- both ahead of 16 for a class that is not below the row count
abbrev pub class_rules : List ℕ → ℕ → List Rule
class_rules words k = table_rules words ++ (16 when rows_in words ≤ k) ∷ []

-- the check refuses with the number of the first rule that applies, or it accepts a class table
abbrev pub CheckMeans : List ℕ → Reply (Unit {0}) → Type 0
CheckMeans words (refuses j) = FirstApplies (table_rules words) j
CheckMeans words (grants _) = ClassTable words

-- the class call refuses likewise, or it gives row k of a class table
abbrev pub ClassMeans : List ℕ → ℕ → Reply Terms → Type 0
ClassMeans words k (refuses j) = FirstApplies (class_rules words k) j
ClassMeans words k (grants s) = ClassTable words × (k < rows_in words) × (s ≡ row_at words k)

-- ---- what the calls answer
abbrev pub table_checks : List ℕ → List Check
table_checks words = (20 unless whole_rows words) ∷ (21 unless rows_fit words) ∷ []

abbrev pub class_checks : List ℕ → ℕ → List Check
class_checks words k = table_checks words ++ (16 unless ltb k (rows_in words)) ∷ []

unfoldable pub check_answer : List ℕ → Reply (Unit {0})
unfolding rows_fit
check_answer words = checked refuses (table_checks words) (grants tt)

unfoldable pub class_answer : List ℕ → ℕ → Reply Terms
unfolding rows_fit
class_answer words k = checked refuses (class_checks words k) (grants (row_at words k))
