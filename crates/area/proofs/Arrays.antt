-- An array that a closure makes of the numbers of its elements, where a call leaves the closure as it was: what holds of each
-- call's answer holds of each element.
-- Assumes nothing.
use Prim.Native.Nat.{ℕ, zero, suc, ◌+◌, ◌≤◌, ◌<◌}
use mathlib.Core.Path.{◌≡◌, sym, subst}
use mathlib.Core.List.{List}
use native.Mathlib.Omega.{arith}
use lib.ListN.{get_or}
use denote.Param.Members.{Mut, Called}
use Rattle.std.specs.Array.{IsFromFnResultFrom, IsFromFnResult}
use Rattle.network.proofs.Tests.{by_eq}

module _ {F B : Type 0} (g : Mut F (ℕ × Unit {0}) B) (f : F) (P : ℕ → B → Type 0)
    (each : (i : ℕ) (y : B) (q : F) → Called g f (i, tt) y q → (q ≡ f) × P i y) where
  made_from : (ys : List B) (e : B) (a n : ℕ) → IsFromFnResultFrom g f ys a n → (k : ℕ) → a ≤ k → k < a + n → P k (get_or ys k e)
  made_from ys e a zero made k from low = absurd (omega arith)
  made_from ys e a (suc n) (q, y, here, called, rest) k from low =
      by_eq k a (λ same. rw same (subst (P a) (sym (here.1 e)) (each a y q called).1))
      (λ other. made_from ys e (a + 1) n (subst (λ (p : F). IsFromFnResultFrom g p ys (a + 1) n) (each a y q called).0 rest) k (omega arith) (omega arith))

  pub made_at : (ys : List B) (e : B) (n : ℕ) → IsFromFnResult g f ys n → (k : ℕ) → k < n → P k (get_or ys k e)
  made_at ys e n made k low = made_from ys e 0 n made.each k (omega arith) (omega arith)
