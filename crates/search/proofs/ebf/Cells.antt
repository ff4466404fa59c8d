-- A cell says its node and its column, as a number says its two digits, and what is stored at one cell is read there
-- and at no other, since the words of two cells are never the same.
-- Assumes nothing.
use mathlib.Core.Path.{◌≡◌, sym, ap, ◌∙◌}
use mathlib.Core.List.{List}
use Prim.Native.Nat.{ℕ, ◌+◌, ◌*◌, ◌/◌, ◌%◌, ◌≤◌, ◌<◌}
use native.Mathlib.Nat.{le_refl, le_of_eq}
use native.Mathlib.Omega.{arith}
use lib.Arith.{digits_lt, digits_div, digits_mod}
use lib.ListN.{length, get_or, set, length-set}
use lib.Seq.{get_or-set_same, get_or-set_other, set_out}
use Rattle.network.proofs.Tests.{by_eq, by_lt}
use Rattle.search.specs.ebf.Table.{cell, cells, number, link_at, put}

-- ---- the cells of nodes and columns
pub cell_inside : (n x v k : ℕ) → v < n → k ≤ x → cell x v k < cells n x
unfolding cell cells
cell_inside n x v k h l = digits_lt h (omega arith)

module _ (x v k v' k' : ℕ) (low : k ≤ x) (low' : k' ≤ x) (same : cell x v k ≡ cell x v' k') where
  pub cell_node : v ≡ v'
  unfolding cell
  cell_node = sym (digits_div v (omega arith)) ∙ ap (λ (c : ℕ). c / (x + 1)) same ∙ digits_div v' (omega arith)

  pub cell_column : k ≡ k'
  unfolding cell
  cell_column = sym (digits_mod v (omega arith)) ∙ ap (λ (c : ℕ). c % (x + 1)) same ∙ digits_mod v' (omega arith)

-- ---- a store at cell c
module _ (l : List ℕ) (c d i : ℕ) where
  pub length_put : length (put l c d i) ≡ length l
  length_put = simp length-set

  -- the link's word is not the number's
  number_put : number (put l c d i) c ≡ get_or (set l (2 * c) d) (2 * c) 0
  number_put = get_or-set_other (set l (2 * c) d) (2 * c + 1) (2 * c) i 0 (λ e. omega arith)

  pub number_put_same : 2 * c + 1 < length l → number (put l c d i) c ≡ d
  number_put_same h = number_put ∙ get_or-set_same l (2 * c) d 0 (omega arith)

  pub link_put_same : 2 * c + 1 < length l → link_at (put l c d i) c ≡ i
  link_put_same h = get_or-set_same (set l (2 * c) d) (2 * c + 1) i 0 (rw length-set h)

  pub number_put_other : (c' : ℕ) → (c' ≡ c → ⊥) → number (put l c d i) c' ≡ number l c'
  number_put_other c' ne =
      get_or-set_other (set l (2 * c) d) (2 * c + 1) (2 * c') i 0 (λ e. omega arith)
      ∙ get_or-set_other l (2 * c) (2 * c') d 0 (λ e. ne (omega arith))

  pub link_put_other : (c' : ℕ) → (c' ≡ c → ⊥) → link_at (put l c d i) c' ≡ link_at l c'
  link_put_other c' ne =
      get_or-set_other (set l (2 * c) d) (2 * c + 1) (2 * c' + 1) i 0 (λ e. ne (omega arith))
      ∙ get_or-set_other l (2 * c) (2 * c' + 1) d 0 (λ e. omega arith)

  -- where the number that is stored is less than the one there, no number is raised
  pub put_lower : d < number l c → (c' : ℕ) → number (put l c d i) c' ≤ number l c'
  put_lower less c' =
      by_eq c' c
      (λ e.
      rw (e, number_put)
      (by_lt (2 * c) (length l) (λ has. omega (arith, get_or-set_same l (2 * c) d 0 has)) (λ out. rw (set_out l (2 * c) d out) (le_refl _))))
      (λ ne. le_of_eq (number_put_other c' ne))
