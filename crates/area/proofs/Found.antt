-- The numbers of held circuits by their places, and the listing: rising numbers differ, and the numbers of circuits that stand
-- by rising number are what a listing means.
-- Assumes nothing.
use mathlib.Core.Path.{◌≡◌, refl}
use mathlib.Core.List.{List, [], ◌∷◌}
use Prim.Native.Nat.{ℕ}
use native.Mathlib.Omega.{arith}
use lib.ListN.{length, length-map}
use Rattle.network.specs.Lists.{Distinct, from}
use Rattle.network.proofs.Listed.{from_length, from_images}
use Rattle.area.specs.Station.{Circuit, circuit_of, circuit_at, circuits}
use Rattle.area.specs.Books.{numbers}
use Rattle.area.specs.Order.{Rising}
use Rattle.area.specs.Held.{ListsHeld, number_at}
use Rattle.area.proofs.Each.{all_then}

-- a circuit's number is the first of its words
pub circuit_number : (w : List ℕ) (j : ℕ) → (circuit_at w j).number ≡ number_at w j
unfolding circuit_of
circuit_number w j = refl

pub held_length : (w : List ℕ) (h : ℕ) → length (circuits w h) ≡ h
held_length w h = from_length (circuit_at w) 0 h

-- the numbers by their places are those of the circuits
pub numbers_held : (w : List ℕ) (h : ℕ) → numbers (circuits w h) ≡ from (number_at w) 0 h
unfolding circuit_of
numbers_held w h = from_images (circuit_at w) (λ c. c.number) 0 h

-- rising numbers differ
pub rising_differ : (l : List ℕ) → Rising l → Distinct l
rising_differ [] h = tt
rising_differ (a ∷ l) h = (all_then {Q = λ b. a ≡ b → ⊥} (λ b low e. omega (arith, low, e)) l h.0, rising_differ l h.1)

-- a listing of circuits by rising number means what document 01 says
pub listing_means : (cs : List Circuit) → Rising (numbers cs) → ListsHeld cs (numbers cs)
listing_means cs rising = record { count = length-map cs (λ c. c.number); held = λ k. refl; rising = rising }
