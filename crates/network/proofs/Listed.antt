-- What a function gives for the numbers from a place on, as a list: how long it is, when two such lists are equal, what holds of
-- each element, and the list with one number more at its end.
-- Assumes nothing.
use mathlib.Core.Path.{◌≡◌, refl, sym, ap, ap₂, ◌∙◌}
use mathlib.Core.List.{List, [], ◌∷◌, ◌++◌, map}
use Prim.Native.Nat.{ℕ, zero, suc, ◌+◌, ◌≤◌, ◌<◌}
use native.Mathlib.Nat.{add-zero, add-suc, suc-add}
use native.Mathlib.Omega.{arith}
use lib.ListN.{length}
use Rattle.network.specs.Lists.{All, from}
use Rattle.network.proofs.Tests.{by_eq}

module _ {A : Type 0} (f : ℕ → A) where
  pub from_length : (i n : ℕ) → length (from f i n) ≡ n
  from_length i zero = refl
  from_length i (suc n) = ap suc (from_length (suc i) n)

  -- one number more at the end
  pub from_more : (i n : ℕ) → from f i (suc n) ≡ from f i n ++ (f (i + n) ∷ [])
  from_more i zero = rw add-zero
  from_more i (suc n) = rw (add-suc, ← suc-add i n) (ap (λ (l : List A). f i ∷ l) (from_more (suc i) n))

  -- what holds of every element
  module _ (P : A → Type 0) where
    pub from_each : (i n : ℕ) → ((k : ℕ) → i ≤ k → k < i + n → P (f k)) → All P (from f i n)
    from_each i zero h = tt
    from_each i (suc n) h = (h i (omega arith) (omega arith), from_each (suc i) n (λ k low high. h k (omega arith) (omega arith)))

    pub each_from : (i n : ℕ) → All P (from f i n) → (k : ℕ) → i ≤ k → k < i + n → P (f k)
    each_from i zero h k low high = absurd (omega arith)
    each_from i (suc n) h k low high =
        by_eq k i (λ e. rw e h.0) (λ e. each_from (suc i) n h.1 k (omega arith) (omega arith))

  -- the images of the elements
  pub from_images : {B : Type 0} (g : A → B) (i n : ℕ) → map g (from f i n) ≡ from (λ k. g (f k)) i n
  from_images g i zero = refl
  from_images g i (suc n) = ap (λ (l : List _). g (f i) ∷ l) (from_images g (suc i) n)

-- functions that agree on as many numbers, from one place on and from another
pub from_alike : {A : Type 0} (f g : ℕ → A) (i j n : ℕ) → ((k : ℕ) → k < n → f (i + k) ≡ g (j + k)) → from f i n ≡ from g j n
from_alike f g i j zero h = refl
from_alike {A = A} f g i j (suc n) h =
    ap₂ ◌∷◌ (ap f (sym (add-zero i)) ∙ h 0 (omega arith) ∙ ap g (add-zero j))
    (from_alike f g (suc i) (suc j) n λ k low. rw (suc-add, suc-add, ← add-suc i k, ← add-suc j k) (h (suc k) (omega arith)))
