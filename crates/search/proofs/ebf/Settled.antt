-- Why a round need not be followed by another unless a link of scaled weight 0 changed a number in it. A link that was
-- tried from column k is settled, unless the change was in column k itself, where it may let other links offer more.
-- Later columns change no number of column k and only lower the others, so the links of column k stay settled; and
-- where every link is settled at every column, a round changes nothing.
-- Assumes nothing.
use mathlib.Core.Path.{◌≡◌, refl, sym, ap, ◌∙◌, subst}
use mathlib.Core.Bool.{true}
use mathlib.Core.List.{List}
use Prim.Native.Nat.{ℕ, ◌+◌, ◌*◌, ◌≤◌, ◌<◌}
use native.Mathlib.Omega.{arith}
use lib.ListN.{length}
use borrow.Author.Tests.{le-leb, lt-ltb}
use Rattle.network.specs.Net.{Net}
use Rattle.network.specs.Problem.{Problem}
use Rattle.network.proofs.Loops.{iter_keeps}
use Rattle.network.proofs.Tests.{by_test, by_lt, by_eq}
use Rattle.search.specs.ebf.Table.{number, improved, allowed, relaxed, is_edge, offered, column, round}
use Rattle.search.specs.ebf.Settled.{Settled, SettledColumn}
use Rattle.search.proofs.ebf.Decided.{small_allowed, allowed_small}
use Rattle.search.proofs.ebf.Cells.{cell_column, number_put_same, number_put_other, put_lower}
use Rattle.search.proofs.ebf.Relaxed.{improved_cases, offered_cases, tail_cell, head_cell, offer}

module _ (g : Net) (q : Problem) where
  -- ---- one link
  module _ (k i : ℕ) (l : List ℕ) where
    -- the table has a place for its head
    abbrev pub HasHead : Type 0
    HasHead = k + q.scaled_by i ≤ q.x → 2 * head_cell g q k i + 1 < length l

    settled_same : Settled g q k i l → offered g q k i l ≡ l
    unfolding offered relaxed
    settled_same settled =
        by_test (is_edge g i) (relaxed g q k i l) l (λ (r : List ℕ). r ≡ l)
        (λ u.
        by_test (allowed q (k + q.scaled_by i)) (improved (tail_cell g q k i) (head_cell g q k i) (q.kept i) q.bound i l) l (λ (r : List ℕ). r ≡ l)
        (λ e.
        improved_cases (tail_cell g q k i) (head_cell g q k i) (q.kept i) q.bound i l (λ (r : List ℕ). r ≡ l)
        (λ near less. absurd (omega (arith, settled u (allowed_small q _ e) near))) (λ _. refl))
        (λ e. refl))
        (λ e. refl)

    -- what a link stores stands at its head
    stored_number : g.usable i ≡ true → k + q.scaled_by i ≤ q.x → number l (tail_cell g q k i) ≤ q.bound
        → offer g q k i l < number l (head_cell g q k i) → HasHead → number (offered g q k i l) (head_cell g q k i) ≡ offer g q k i l
    unfolding offered relaxed improved
    stored_number u small near less has =
        rw (u, small_allowed q (k + q.scaled_by i) small, le-leb _ _ near, lt-ltb _ _ less)
        (number_put_same l (head_cell g q k i) (offer g q k i l) i (has small))

    -- a link that changed nothing is settled
    same_settled : HasHead → offered g q k i l ≡ l → Settled g q k i l
    same_settled has same u small near =
        by_lt (offer g q k i l) (number l (head_cell g q k i))
        (λ less. absurd (omega (arith, ap (λ (r : List ℕ). number r (head_cell g q k i)) same, stored_number u small near less has)))
        (λ over. over)

    -- so is one that leads to a later column, once it was tried
    tried_settled : HasHead → 0 < q.scaled_by i → Settled g q k i (offered g q k i l)
    unfolding offered relaxed
    tried_settled has later u small =
        let other : tail_cell g q k i ≡ head_cell g q k i → ⊥ =
        λ e. omega (arith, cell_column q.x (g.tail i) k (g.head i) (k + q.scaled_by i) (omega arith) small e) in
        rw (u, small_allowed q (k + q.scaled_by i) small)
        (improved_cases (tail_cell g q k i) (head_cell g q k i) (q.kept i) q.bound i l
        (λ (r : List ℕ). number r (tail_cell g q k i) ≤ q.bound → number r (head_cell g q k i) ≤ number r (tail_cell g q k i) + q.kept i)
        (λ near less _.
        omega (
          arith,
          number_put_same l (head_cell g q k i) (offer g q k i l) i (has small),
          number_put_other l (head_cell g q k i) (offer g q k i l) i (tail_cell g q k i) other,
        ))
        (λ over near. over near))

  -- a link that leads past column k leaves its links settled
  kept_settled : (k k' i j : ℕ) (l : List ℕ) → k < k' + q.scaled_by i → Settled g q k j l → Settled g q k j (offered g q k' i l)
  kept_settled k k' i j l past settled =
      offered_cases g q k' i l (λ (r : List ℕ). Settled g q k j r)
      (λ u small near less u' small' near'.
      let other : tail_cell g q k j ≡ head_cell g q k' i → ⊥ =
      λ e. omega (arith, cell_column q.x (g.tail j) k (g.head i) (k' + q.scaled_by i) (omega arith) small e) in
      let same = number_put_other l (head_cell g q k' i) (offer g q k' i l) i (tail_cell g q k j) other in
      omega (
        arith,
        same,
        put_lower l (head_cell g q k' i) (offer g q k' i l) i less (head_cell g q k j),
        settled u' small' (omega (arith, same, near')),
      ))
      settled

  -- ---- the links of a column, one after another
  -- one more link was tried, and the column itself did not change
  pub settled_more : (k i : ℕ) (l l' : List ℕ) → l' ≡ offered g q k i l → (q.scaled_by i ≡ 0 → l ≡ l') → HasHead k i l
      → ((j : ℕ) → j < i → Settled g q k j l)
      → (j : ℕ) → j < i + 1 → Settled g q k j l'
  settled_more k i l l' turn own has before j low =
      by_eq (q.scaled_by i) 0
      (λ none.
      let same : l ≡ l' = own none in
      subst (λ (r : List ℕ). Settled g q k j r) same
      (by_eq j i (λ e. rw e (same_settled k i l has (sym turn ∙ sym same))) (λ ne. before j (omega arith))))
      (λ some.
      rw turn
      (by_eq j i (λ e. rw e (tried_settled k i l has (omega arith))) (λ ne. kept_settled k k i j l (omega arith) (before j (omega arith)))))

  pub column_same : (k : ℕ) (l : List ℕ) → SettledColumn g q k l → column g q k l ≡ l
  unfolding column
  column_same k l settled =
      iter_keeps (offered g q k) (λ (r : List ℕ). r ≡ l) g.links l
      (λ i r low e. ap (offered g q k i) e ∙ settled_same k i l (settled i low)) refl

  -- ---- the columns of a round
  -- a later column leaves an earlier one settled
  pub column_keeps : (k k' : ℕ) (l : List ℕ) → k < k' → SettledColumn g q k l → SettledColumn g q k (column g q k' l)
  unfolding column
  column_keeps k k' l later settled j low =
      iter_keeps (offered g q k') (λ (r : List ℕ). Settled g q k j r) g.links l
      (λ i r _ h. kept_settled k k' i j r (omega arith) h) (settled j low)

  pub round_same : (l : List ℕ) → ((k : ℕ) → k < q.x + 1 → SettledColumn g q k l) → round g q l ≡ l
  unfolding round
  round_same l settled =
      iter_keeps (column g q) (λ (r : List ℕ). r ≡ l) (q.x + 1) l
      (λ k r low e. ap (column g q k) e ∙ column_same k l (settled k low)) refl
