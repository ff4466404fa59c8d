-- One relaxation either leaves the table or puts a lesser number, found from a number within the bound, at the cell of
-- the link's head. So it only lowers numbers, and after it the head's is no more than the tail's with the link's weight.
-- Assumes nothing.
use mathlib.Core.Path.{◌≡◌}
use mathlib.Core.Bool.{true, and-eq-true_iff}
use mathlib.Core.List.{List}
use Prim.Native.Nat.{ℕ, ◌+◌, ◌*◌, ◌≤◌, ◌<◌}
use native.Mathlib.Nat.{le_refl, le_of_eq}
use native.Mathlib.Omega.{arith}
use lib.ListN.{length}
use borrow.Author.Tests.{leb-true, ltb-true, ltb-false, le-leb}
use Rattle.network.specs.Net.{Net}
use Rattle.network.specs.Problem.{Problem}
use Rattle.network.proofs.Tests.{by_test, by_lt}
use Rattle.search.specs.ebf.Table.{cell, number, put, better, improved, allowed, relaxed, is_edge, offered}
use Rattle.search.proofs.ebf.Decided.{small_allowed, allowed_small}
use Rattle.search.proofs.ebf.Cells.{number_put_same, put_lower}

-- ---- a link of kept weight w from cell a to cell b
module _ (a b w bound i : ℕ) (l : List ℕ) where
  pub improved_cases : (P : List ℕ → Type 0)
      → (number l a ≤ bound → number l a + w < number l b → P (put l b (number l a + w) i))
      → ((number l a ≤ bound → number l b ≤ number l a + w) → P l)
      → P (improved a b w bound i l)
  unfolding improved
  improved_cases P stored left =
      by_test (better a b w bound l) (put l b (number l a + w) i) l P
      (λ e. let h = simp and-eq-true_iff at e in stored (leb-true _ _ h.0) (ltb-true _ _ h.1))
      (λ e. left (λ near. ltb-false _ _ (simp (le-leb (number l a) bound near) at e)))

  -- a cell that was not reached offers nothing, and what it could offer is bound + 1 at least
  pub improved_done : 2 * b + 1 < length l → number l b ≤ bound + 1 → number (improved a b w bound i l) b ≤ number l a + w
  improved_done has low =
      improved_cases (λ (r : List ℕ). number r b ≤ number l a + w) (λ near less. le_of_eq (number_put_same l b (number l a + w) i has))
      (λ over. by_lt bound (number l a) (λ far. omega arith) (λ near. over near))

-- ---- link i tried from its tail at k
module _ (g : Net) (q : Problem) (k i : ℕ) where
  -- the cells that the link leads from and to
  abbrev pub tail_cell : ℕ
  tail_cell = cell q.x (g.tail i) k

  abbrev pub head_cell : ℕ
  head_cell = cell q.x (g.head i) (k + q.scaled_by i)

  -- the number that the link offers its head
  abbrev pub offer : List ℕ → ℕ
  offer l = number l tail_cell + q.kept i

  module _ (l : List ℕ) where
    pub relaxed_cases : (P : List ℕ → Type 0)
        → (k + q.scaled_by i ≤ q.x → number l tail_cell ≤ q.bound → offer l < number l head_cell → P (put l head_cell (offer l) i))
        → P l
        → P (relaxed g q k i l)
    unfolding relaxed
    relaxed_cases P stored left =
        by_test (allowed q (k + q.scaled_by i)) (improved tail_cell head_cell (q.kept i) q.bound i l) l P
        (λ e. improved_cases tail_cell head_cell (q.kept i) q.bound i l P (stored (allowed_small q _ e)) (λ _. left)) (λ e. left)

    pub offered_cases : (P : List ℕ → Type 0)
        → (g.usable i ≡ true → k + q.scaled_by i ≤ q.x → number l tail_cell ≤ q.bound → offer l < number l head_cell
        → P (put l head_cell (offer l) i))
        → P l
        → P (offered g q k i l)
    unfolding offered
    offered_cases P stored left =
        by_test (is_edge g i) (relaxed g q k i l) l P (λ u. relaxed_cases P (stored u) left) (λ e. left)

    pub offered_lower : (c : ℕ) → number (offered g q k i l) c ≤ number l c
    offered_lower c =
        offered_cases (λ (r : List ℕ). number r c ≤ number l c) (λ u small near less. put_lower l head_cell (offer l) i less c) (le_refl _)

    pub offered_done : g.usable i ≡ true → k + q.scaled_by i ≤ q.x → 2 * head_cell + 1 < length l → number l head_cell ≤ q.bound + 1
        → number (offered g q k i l) head_cell ≤ offer l
    unfolding offered relaxed
    offered_done u small has low =
        rw (u, small_allowed q (k + q.scaled_by i) small) (improved_done tail_cell head_cell (q.kept i) q.bound i l has low)
