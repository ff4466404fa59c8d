-- Laws of the node set: a node that was put in is in it, and no other comes or goes.
-- Assumes nothing.
use mathlib.Core.Path.{◌≡◌, refl, ap, ◌∙◌}
use mathlib.Core.Bool.{true, false}
use Prim.Native.Nat.{ℕ, zero, suc, ◌+◌, ◌-◌, ◌/◌, ◌%◌, ◌^◌, ◌<◌}
use native.Mathlib.Nat.{div_self, div-eq_of_lt, zero-div, mul-mod_left, pow-suc}
use native.Mathlib.Omega.{arith}
use native.Mathlib.Decide.{dec_lt}
use lib.Bits.{bit_or, or_shr, or_mod, or_zero_r}
use lib.Pow.{pow-lt, pow_pos, pow-add, shl-shr}
use Rattle.network.specs.NodeSet.{member, inserted}
use Rattle.network.proofs.Tests.{by_eq}

-- a bit of a union
or_bit : (a b w : ℕ) → bit_or a b / 2 ^ w % 2 ≡ bit_or (a / 2 ^ w % 2) (b / 2 ^ w % 2)
or_bit a b w = rw or_shr (or_mod (a / 2 ^ w) (b / 2 ^ w) 1)

or_one : (n : ℕ) → n < 2 → bit_or n 1 ≡ 1
or_one zero h = refl
or_one (suc zero) h = refl
or_one (suc (suc n)) h = absurd (omega arith)

power_below : (v w : ℕ) → w < v → 2 ^ v / 2 ^ w % 2 ≡ 0
power_below v w h =
    let q : v ≡ suc (v - suc w) + w = omega arith in
    ap (λ k. 2 ^ k / 2 ^ w % 2) q ∙ rw (pow-add, shl-shr, pow-suc) (mul-mod_left (2 ^ (v - suc w)) 2)

power_above : (v w : ℕ) → v < w → 2 ^ v / 2 ^ w % 2 ≡ 0
power_above v w h = rw (div-eq_of_lt (pow-lt h))

power_other : (v w : ℕ) → (v ≡ w → ⊥) → 2 ^ v / 2 ^ w % 2 ≡ 0
power_other v w ne = elim (dec_lt v w) [ yes h ↦ power_above v w h | no h ↦ power_below v w (omega arith) ]

pub member_empty : (v : ℕ) → member 0 v ≡ false
unfolding member
member_empty v = rw zero-div

pub member_inserted : (s v : ℕ) → member (inserted s v) v ≡ true
unfolding member inserted
member_inserted s v = simp (or_bit, div_self (pow_pos v), or_one (s / 2 ^ v % 2) (omega arith))

pub member_others : (s v w : ℕ) → (v ≡ w → ⊥) → member (inserted s v) w ≡ member s w
unfolding member inserted
member_others s v w ne = simp (or_bit, power_other v w ne, or_zero_r)

-- so what is in the set stays in it
pub inserted_keeps : (s v w : ℕ) → member s w ≡ true → member (inserted s v) w ≡ true
inserted_keeps s v w h = by_eq v w (λ e. rw e (member_inserted s w)) (λ e. member_others s v w e ∙ h)
