-- A circuit's unused path words put together by `or`: what comes of it is 0 just where each of them is.
-- Assumes nothing.
use Rattle.std.proofs.Common.{arith, ◌≡◌, refl, sym, ◌∙◌, ℕ, ◌+◌, ◌≤◌, ◌<◌, List, get_or, ◌&&◌, eqb, bit_or}
use mathlib.Core.Bool.{and-true}
use native.Mathlib.Numerals.{add-one}
use borrow.Author.Tests.{ne_eqb, lt-ltb, le-ltb}
use Rattle.std.specs.Int.Bits.{or_zero_l, or_zero_r}
use Rattle.std.proofs.lemmas.Nat.{le_or_l}
use Rattle.network.specs.Limits.{most_path_links}
use Rattle.network.specs.Loops.{every}
use Rattle.network.proofs.Tests.{by_eq}
use Rattle.area.specs.Layout.{path_start}
use Rattle.area.specs.Formed.{unused_clear}
use Rattle.area.proofs.Formed.{clear_at}

or_clear : (a b : ℕ) → eqb (bit_or a b) 0 ≡ (eqb a 0 && eqb b 0)
or_clear a b =
    by_eq a 0 (λ e. rw (e, or_zero_l b))
    (λ ne. rw (ne_eqb a 0 ne, ne_eqb (bit_or a b) 0 (λ e. ne (omega (arith, e, le_or_l a b)))) refl)

module _ (c : List ℕ) (left k : ℕ) (so_far : eqb left 0 ≡ every (clear_at c) k) where
  -- a word of the path is passed over
  pub used_passed : k < get_or c 2 0 → eqb (bit_or left 0) 0 ≡ every (clear_at c) (k + 1)
  unfolding every
  used_passed low = rw (add-one, or_zero_r left, lt-ltb k (get_or c 2 0) low, so_far) (sym (and-true (every (clear_at c) k)))

  -- a word past it is put to the others
  pub unused_put : get_or c 2 0 ≤ k → eqb (bit_or left (get_or c (path_start + k) 0)) 0 ≡ every (clear_at c) (k + 1)
  unfolding every
  unused_put past = rw (add-one, or_clear left (get_or c (path_start + k) 0), le-ltb k (get_or c 2 0) past, so_far) refl

  -- after the last word
  pub unused_all : k ≡ most_path_links → eqb left 0 ≡ unused_clear c
  unfolding unused_clear
  unused_all last = so_far ∙ rw last refl
