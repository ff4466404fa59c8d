-- Statements about every element of a list, and of its images. Each law goes by one element more.
-- Assumes nothing.
use Prim.Native.Nat.{ℕ}
use mathlib.Core.Path.{◌≡◌, ap}
use mathlib.Core.List.{List, [], ◌∷◌, map}
use Rattle.network.specs.Lists.{All, Distinct}

pub all_then : {P Q : ℕ → Type 0} → ((a : ℕ) → P a → Q a) → (l : List ℕ) → All P l → All Q l
all_then f [] h = tt
all_then f (a ∷ l) h = (f a h.0, all_then f l h.1)

pub all_both : {P Q R : ℕ → Type 0} → ((a : ℕ) → P a → Q a → R a) → (l : List ℕ) → All P l → All Q l → All R l
all_both f [] h k = tt
all_both f (a ∷ l) h k = (f a h.0 k.0, all_both f l h.1 k.1)

-- every image, and the image of every element
module _ {A : Type 0} (f : A → ℕ) (P : ℕ → Type 0) where
  pub images_each : (l : List A) → All P (map f l) → All (λ a. P (f a)) l
  images_each [] h = tt
  images_each (a ∷ l) h = (h.0, images_each l h.1)

  pub each_image : (l : List A) → All (λ a. P (f a)) l → All P (map f l)
  each_image [] h = tt
  each_image (a ∷ l) h = (h.0, each_image l h.1)

-- numbers differ where their images do
pub distinct_map : (f : ℕ → ℕ) (l : List ℕ) → Distinct (map f l) → Distinct l
distinct_map f [] h = tt
distinct_map f (a ∷ l) h = (
  all_then (λ b other e. other (ap f e)) l (images_each f (λ c. f a ≡ c → ⊥) l h.0),
  distinct_map f l h.1,
)
