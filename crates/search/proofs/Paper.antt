-- What the paper's assignments and its Initialize leave: a changed entry and the others, and 0 at every k of the source, ∞ at
-- every k of every other vertex, and NIL at all of them, whatever the variables held before.
-- Assumes nothing.
use mathlib.Core.Path.{◌≡◌, refl, ◌∙◌}
use mathlib.Core.Bool.{◌&&◌}
use Prim.Native.Nat.{ℕ, ◌+◌, ◌≤◌, ◌<◌}
use native.Mathlib.Omega.{arith}
use lib.Dec.{eqb}
use borrow.Author.Tests.{eq-eqb, ne_eqb}
use Rattle.network.specs.Loops.{iter}
use Rattle.network.specs.Net.{Net}
use Rattle.network.specs.Problem.{Problem}
use Rattle.network.proofs.Loops.{iter_keeps, iter_brings}
use Rattle.network.proofs.Tests.{by_eq, by_test}
use Rattle.search.specs.Paper.{Estimation, weight, ∞, Predecessor, NIL, Variables, changed, line_1, line_2, line_3, line_4, line_5, initialize}

-- ---- one assignment
module _ {A : Type 0} (f : ℕ → ℕ → A) (v k : ℕ) (e : A) where
  pub changed_here : changed f v k e v k ≡ e
  changed_here = simp (eq-eqb v v refl, eq-eqb k k refl)

  pub changed_elsewhere : (u j : ℕ) → (u ≡ v → j ≡ k → ⊥) → changed f v k e u j ≡ f u j
  changed_elsewhere u j other =
      by_eq u v (λ a. simp (eq-eqb u v a, ne_eqb j k (other a))) (λ a. simp (ne_eqb u v a))

  -- an entry that is e stays so where e is assigned
  changed_again : (u j : ℕ) → f u j ≡ e → changed f v k e u j ≡ e
  changed_again u j h = by_test (eqb u v && eqb j k) e (f u j) (λ (r : A). r ≡ e) (λ _. refl) (λ _. h)

-- the variables hold the estimation e and the predecessor p at v and k
pub record Holds (v k : ℕ) (e : Estimation) (p : Predecessor) (t : Variables) : Type 0 where
  pub d : t.d v k ≡ e
  pub π : t.π v k ≡ p

module _ (g : Net) (q : Problem) where
  -- ---- lines 1 to 3
  abbrev cleared_at : ℕ → ℕ → Variables → Variables
  cleared_at v i t = line_3 g q v i (line_2 g q v i t)

  cleared_again : (v i : ℕ) (t : Variables) (u j : ℕ) → Holds u j ∞ NIL t → Holds u j ∞ NIL (cleared_at v i t)
  cleared_again v i t u j h = record { d = changed_again t.d v i ∞ u j h.d; π = changed_again t.π v i NIL u j h.π }

  row_cleared : (v : ℕ) (t : Variables) (k : ℕ) → k ≤ q.x → Holds v k ∞ NIL (iter (cleared_at v) (q.x + 1) t)
  row_cleared v t k low =
      iter_brings (cleared_at v) (λ _. Unit {0}) (Holds v k ∞ NIL) k (q.x + 1) (omega arith) (λ _ _ _ h. h)
      (λ r _. record { d = changed_here r.d v k ∞; π = changed_here r.π v k NIL }) (λ i r h. cleared_again v i r v k h) t tt

  all_cleared : (t : Variables) (v k : ℕ) → v < g.nodes → k ≤ q.x → Holds v k ∞ NIL (line_1 g q t)
  unfolding line_1
  all_cleared t v k v_low k_low =
      iter_brings (λ v. iter (cleared_at v) (q.x + 1)) (λ _. Unit {0}) (Holds v k ∞ NIL) v g.nodes v_low (λ _ _ _ h. h)
      (λ r _. row_cleared v r k k_low)
      (λ u r h. iter_keeps (cleared_at u) (Holds v k ∞ NIL) (q.x + 1) r (λ i r _ h. cleared_again u i r v k h) h) t tt

  -- ---- lines 4 and 5
  module _ (s : ℕ) where
    starts_here : (m : ℕ) (t : Variables) (j : ℕ) → j < m → (iter (line_5 g q s) m t).d s j ≡ weight 0
    starts_here m t j low =
        iter_brings (line_5 g q s) (λ _. Unit {0}) (λ (r : Variables). r.d s j ≡ weight 0) j m low (λ _ _ _ h. h)
        (λ r _. changed_here r.d s j (weight 0)) (λ i r h. changed_again r.d s i (weight 0) s j h) t tt

    starts_elsewhere : (m : ℕ) (t : Variables) (u j : ℕ) → (u ≡ s → ⊥) → (iter (line_5 g q s) m t).d u j ≡ t.d u j
    starts_elsewhere m t u j other =
        iter_keeps (line_5 g q s) (λ (r : Variables). r.d u j ≡ t.d u j) m t
        (λ i r low h. changed_elsewhere r.d s i (weight 0) u j (λ e. absurd (other e)) ∙ h) refl

    starts_nowhere : (m : ℕ) (t : Variables) (u j : ℕ) → (iter (line_5 g q s) m t).π u j ≡ t.π u j
    starts_nowhere m t u j = iter_keeps (line_5 g q s) (λ (r : Variables). r.π u j ≡ t.π u j) m t (λ i r low h. h) refl

    -- ---- lines 1 to 5
    module _ (t : Variables) (k : ℕ) (k_low : k ≤ q.x) where
      pub source_starts : s < g.nodes → Holds s k (weight 0) NIL (initialize g q s t)
      unfolding line_4
      source_starts s_low =
          record {
            d = starts_here (q.x + 1) (line_1 g q t) k (omega arith);
            π = starts_nowhere (q.x + 1) (line_1 g q t) s k ∙ (all_cleared t s k s_low k_low).π;
          }

      pub others_unreached : (v : ℕ) → v < g.nodes → (v ≡ s → ⊥) → Holds v k ∞ NIL (initialize g q s t)
      unfolding line_4
      others_unreached v v_low other =
          record {
            d = starts_elsewhere (q.x + 1) (line_1 g q t) v k other ∙ (all_cleared t v k v_low k_low).d;
            π = starts_nowhere (q.x + 1) (line_1 g q t) v k ∙ (all_cleared t v k v_low k_low).π;
          }
