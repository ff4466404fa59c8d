-- The lines of the classes one after another, as the loop of `put_lines` puts them.
-- Assumes nothing.
use mathlib.Core.Path.{◌≡◌, refl}
use mathlib.Core.List.{List, [], ◌++◌, append_assoc, append-nil}
use Prim.Native.Nat.{ℕ, zero, suc, ◌+◌}
use native.Mathlib.Nat.{add-zero, zero-add, add-suc, suc-add}
use native.Mathlib.Numerals.{add-one}
use Rattle.class_format.specs.Lines.{class_line, lines_from, lines}
use Rattle.rules.specs.ClassTable.{rows_in}

module _ (rows area : List ℕ) (n : ℕ) where
  pub no_lines : (k : ℕ) → lines_from rows area n k 0 ≡ []
  unfolding lines_from
  no_lines k = refl

  more_lines : (k c : ℕ) → lines_from rows area n k (suc c) ≡ class_line rows area n k ++ lines_from rows area n (suc k) c
  unfolding lines_from
  more_lines k c = refl

  -- the line of one class more stands behind those of the c classes before
  lines_then : (k c : ℕ) → lines_from rows area n k (suc c) ≡ lines_from rows area n k c ++ class_line rows area n (k + c)
  lines_then k zero = rw (more_lines k zero) (simp (no_lines, append-nil, add-zero))
  lines_then k (suc c) = rw (more_lines k (suc c), more_lines k c, lines_then (suc k) c) (simp (append_assoc, add-suc, suc-add))

  pub lines_turn : (k : ℕ) → lines_from rows area n 0 (k + 1) ≡ lines_from rows area n 0 k ++ class_line rows area n k
  lines_turn k = rw (add-one, lines_then 0 k, zero-add) refl

  pub all_lines : lines rows area n ≡ lines_from rows area n 0 (rows_in rows)
  unfolding lines
  all_lines = refl
