-- The test of a class table says what its statement says; and its numbers fit each other.
-- Assumes nothing.
use Prim.Native.Nat.{ℕ, ◌%◌}
use mathlib.Core.Path.{◌≡◌, refl}
use mathlib.Core.Bool.{Bool, true}
use mathlib.Core.List.{List}
use lib.Dec.{ltb, leb}
use lib.ListN.{length}
use borrow.Author.Tests.{ltb-true, lt-ltb, leb-true, le-leb, eqb-true, eq-eqb}
use Rattle.network.proofs.Loops.{every_at, every_all}
use Rattle.network.proofs.Ranges.{terms_says, terms_test}
use Rattle.network.proofs.Tests.{both, fst_of, snd_of}
use Rattle.rules.specs.ClassTable.{row_words, class_words, rows_in, row_at, WholeRows, RowsFit, whole_rows, row_fits, rows_fit}

-- Req 01 says the most of a table twice: 64 rows, and 256 words
pub full_table : class_words ≡ 256
full_table = refl

module _ (words : List ℕ) where
  -- ---- its word count
  abbrev some : Bool
  some = ltb 0 (length words)

  abbrev few : Bool
  few = leb (length words) class_words

  pub whole_says : whole_rows words ≡ true → WholeRows words
  whole_says e =
      let rest = snd_of some _ e in
      record {
        some = ltb-true 0 (length words) (fst_of some _ e);
        few = leb-true (length words) class_words (fst_of few _ rest);
        whole = eqb-true (length words % row_words) 0 (snd_of few _ rest);
      }

  pub whole_test : WholeRows words → whole_rows words ≡ true
  whole_test h =
      both some _ (lt-ltb 0 (length words) h.some)
      (both few _ (le-leb (length words) class_words h.few) (eq-eqb (length words % row_words) 0 h.whole))

  -- ---- its rows
  abbrev fits : ℕ → Bool
  fits k = row_fits (row_at words k)

  pub rows_says : rows_fit words ≡ true → RowsFit words
  unfolding rows_fit
  rows_says e k low = terms_says _ (every_at fits k (rows_in words) low e)

  pub rows_test : RowsFit words → rows_fit words ≡ true
  unfolding rows_fit
  rows_test h = every_all fits (rows_in words) λ k low. terms_test _ (h k low)
