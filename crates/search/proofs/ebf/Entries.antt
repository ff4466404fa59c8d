-- Line 8 on two entries: where both the words and the paper store a sum, where one of the two does, and why each entry then
-- says what the paper has, as far as it is within the bound.
-- Assumes nothing.
use mathlib.Core.Path.{◌≡◌, refl, sym, ◌∙◌}
use mathlib.Core.Bool.{true, false, true≢false}
use Prim.Native.Nat.{ℕ, ◌+◌, ◌≤◌, ◌<◌}
use native.Mathlib.Omega.{arith}
use borrow.Author.Tests.{lt-ltb, ltb-true, ltb-false}
use Rattle.network.specs.Net.{Net}
use Rattle.network.proofs.Tests.{by_lt}
use Rattle.search.specs.Paper.{Estimation, weight, ∞, Predecessor, link, plus, greater}
use Rattle.search.specs.ebf.AsPaper.{Within, Names, Entry}

module _ (g : Net) (bound : ℕ) where
  by_within : (d : Estimation) {C : Type 0} → (Within bound d → C) → ((Within bound d → ⊥) → C) → C
  by_within (weight n) near far = by_lt bound n (λ h. far (λ z. omega arith)) near
  by_within ∞ near far = far (λ z. z)

  -- a number stands for itself
  pub exact : (n i : ℕ) (p : Predecessor) → Names g p i → Entry g bound (weight n) p n i
  exact n i p e = record { number = λ _. refl; predecessor = λ _. e; over = λ far. by_lt bound n (λ h. h) (λ h. absurd (far h)) }

  -- nothing within the bound stands for a number over it
  pub beyond : (e : Estimation) (p : Predecessor) (n i : ℕ) → (Within bound e → ⊥) → bound < n → Entry g bound e p n i
  beyond e p n i far high = record { number = λ h. absurd (far h); predecessor = λ h. absurd (far h); over = λ _. high }

  -- a sum within the bound begins with an estimation within it
  sum_within : (d : Estimation) (w : ℕ) → Within bound (plus d w) → Within bound d
  sum_within (weight n) w h = omega (arith, h)
  sum_within ∞ w h = h

  -- what is less than an estimation within the bound is within it
  less_within : (d e : Estimation) → greater d e ≡ true → Within bound d → Within bound e
  less_within (weight n) (weight m) less h = omega (arith, ltb-true m n less, h)
  less_within (weight n) ∞ less h = true≢false (sym less)
  less_within ∞ e less h = absurd h

  -- no less than an estimation that is not within the bound
  more_beyond : (d : Estimation) (n : ℕ) → greater d (weight n) ≡ false → (Within bound d → ⊥) → bound < n
  more_beyond (weight m) n more far = by_lt bound n (λ h. h) (λ h. absurd (far (omega (arith, ltb-false n m more))))
  more_beyond ∞ n more far = absurd (true≢false more)

  -- ---- line 8, where link i of weight w leads from an entry of nu to an entry of nv
  module _ (i w : ℕ) (du dv : Estimation) (pu pv : Predecessor) (nu iu nv iv : ℕ) (eu : Entry g bound du pu nu iu) (ev : Entry g bound dv pv nv iv) where
    tail_is : nu ≤ bound → du ≡ weight nu
    tail_is near = by_within du eu.number (λ far. absurd (omega (arith, eu.over far)))

    -- both store
    pub stored_both : nu ≤ bound → i < g.links → Entry g bound (plus du w) (link i) (nu + w) i
    stored_both near listed = rw (tail_is near) (exact (nu + w) i (link i) (refl, listed))

    -- the words alone store: what stood there is not within the bound, nor is the sum
    pub stored_alone : nu ≤ bound → nu + w < nv → greater dv (plus du w) ≡ false → Entry g bound dv pv (nu + w) i
    stored_alone near less more =
        let more' : greater dv (weight (nu + w)) ≡ false = rw (tail_is near) at more in
        let far : Within bound dv → ⊥ =
        λ h. true≢false (sym (lt-ltb (nu + w) nv less) ∙ (rw (ev.number h) at more')) in
        beyond dv pv (nu + w) i far (more_beyond dv (nu + w) more' far)

    -- the paper alone stores: the sum is over the bound, and so is the number
    pub left_alone : (nu ≤ bound → nv ≤ nu + w) → greater dv (plus du w) ≡ true → Entry g bound (plus du w) (link i) nv iv
    left_alone left less =
        let far : Within bound (plus du w) → ⊥ =
        λ h.
        let is : du ≡ weight nu = eu.number (sum_within du w h) in
        let low : nu + w ≤ bound = rw is at h in
        by_within dv
        (λ z. omega (arith, left (omega arith), ltb-true (nu + w) nv (rw (is, ev.number z) at less)))
        (λ z. omega (arith, left (omega arith), ev.over z)) in
        beyond (plus du w) (link i) nv iv far (ev.over (λ h. far (less_within dv (plus du w) less h)))
