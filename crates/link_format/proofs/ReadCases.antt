-- The reader's answer and the table after, case by case: the first check that fails gives the number.
-- Assumes nothing.
use mathlib.Core.Path.{◌≡◌}
use mathlib.Core.Bool.{true, false}
use mathlib.Core.List.{List}
use Prim.Native.Nat.{ℕ, ◌+◌, ◌*◌, ◌≤◌, ◌<◌}
use borrow.Author.Tests.{le-leb, lt-leb, eq-eqb, ne_eqb}
use lib.ListN.{length}
use Rattle.network.specs.Limits.{link_words, most_links}
use Rattle.area.specs.Refusals.{Reply, refuses}
use Rattle.link_format.specs.declared.Size.{Size}
use Rattle.link_format.specs.Reading.{signed, fills, offset_in, links_in, read_answer, table_read}

module _ (f t : List ℕ) where
  abbrev Done : Reply Size → List ℕ → Type 0
  Done said t' = (said ≡ read_answer f (length t)) × (t' ≡ table_read f t)

  pub unsigned : signed f ≡ false → Done (refuses 17) t
  unfolding read_answer table_read
  unsigned e = (simp e, simp e)

  module _ (is_signed : signed f ≡ true) where
    wrong_size : fills f ≡ false → Done (refuses 18) t
    unfolding read_answer table_read
    wrong_size e = (simp (is_signed, e), simp (is_signed, e))

    pub many_links : most_links < links_in f → Done (refuses 18) t
    unfolding fills
    many_links h = wrong_size (simp (lt-leb (links_in f) most_links h))

    module _ (few : links_in f ≤ most_links) where
      pub not_filled : (offset_in f + 20 * links_in f + 16 ≡ length f → ⊥) → Done (refuses 18) t
      unfolding fills
      not_filled h = wrong_size (simp (le-leb (links_in f) most_links few, ne_eqb (offset_in f + 20 * links_in f + 16) (length f) h))

      module _ (whole : offset_in f + 20 * links_in f + 16 ≡ length f) where
        pub filled : fills f ≡ true
        unfolding fills
        filled = simp (le-leb (links_in f) most_links few, eq-eqb (offset_in f + 20 * links_in f + 16) (length f) whole)

        pub short_table : length t < link_words * links_in f → Done (refuses 19) t
        unfolding read_answer table_read
        short_table h =
            let e = lt-leb (link_words * links_in f) (length t) h in
            (simp (is_signed, filled, e), simp (is_signed, filled, e))
