-- The place of a circuit number: behind the circuits with a lower number. Where the held numbers rise, a held number stands
-- there.
-- Assumes nothing.
use mathlib.Core.Path.{◌≡◌, refl, sym, ◌∙◌, subst}
use mathlib.Core.Bool.{true, ◌&&◌, and-false, or-true, true≢false}
use mathlib.Core.List.{List}
use Prim.Native.Nat.{ℕ, zero, suc, ◌+◌, ◌≤◌, ◌<◌}
use native.Mathlib.Omega.{arith}
use lib.Dec.{ltb, leb, eqb}
use lib.ListN.{get_or}
use borrow.Author.Tests.{eq-eqb, ne_eqb, lt-ltb, le-ltb, leb-true, leb-false, le-leb, lt-leb}
use Rattle.network.specs.Lists.{memb, from}
use Rattle.network.proofs.Listed.{from_each, each_from}
use Rattle.network.proofs.Loops.{first_before, first_here, first_most, first_passes}
use Rattle.network.proofs.Tests.{by_bool, by_lt, by_eq}
use Rattle.area.specs.Station.{circuits, held_in}
use Rattle.area.specs.Books.{numbers, holds}
use Rattle.area.specs.Held.{number_at, place_of}
use Rattle.area.specs.Order.{Rising}
use Rattle.area.proofs.Found.{numbers_held}

-- ---- the place of a number
pub place_of_most : (w : List ℕ) (c : ℕ) → place_of w c ≤ held_in w
unfolding place_of
place_of_most w c = first_most (λ j. leb c (number_at w j)) (get_or w 2 0)

-- the numbers before it are lower
pub below_place : (w : List ℕ) (c i : ℕ) → i < place_of w c → number_at w i < c
unfolding place_of
below_place w c i low = leb-false c (number_at w i) (first_before (λ j. leb c (number_at w j)) (get_or w 2 0) i low)

-- and the one there, if a circuit stands there, is not
pub at_place : (w : List ℕ) (c : ℕ) → place_of w c < held_in w → c ≤ number_at w (place_of w c)
unfolding place_of
at_place w c low = leb-true c (number_at w (place_of w c)) (first_passes (λ j. leb c (number_at w j)) (get_or w 2 0) low)

-- ---- the numbers of the held circuits
-- a number is among a function's values if and only if it is one of them
memb_from : (f : ℕ → ℕ) (k i n : ℕ) → memb k (from f i n) ≡ true → (j : ℕ) × (j < i + n) × (k ≡ f j)
memb_from f k i zero h = absurd (true≢false (sym h))
memb_from f k i (suc n) h =
    by_eq k (f i) (λ e. (i, omega arith, e))
    (λ e.
    let later : memb k (from f (suc i) n) ≡ true = rw (ne_eqb k (f i) e) at h in
    let at : (j : ℕ) × (j < suc i + n) × (k ≡ f j) = memb_from f k (suc i) n later in
    (at.0, omega (arith, at.1), at.2))

from_memb : (f : ℕ → ℕ) (k i n j : ℕ) → i ≤ j → j < i + n → k ≡ f j → memb k (from f i n) ≡ true
from_memb f k i zero j above low e = absurd (omega arith)
from_memb f k i (suc n) j above low e =
    by_eq j i (λ q. rw (eq-eqb k (f i) (rw q at e)) refl)
    (λ q. rw (from_memb f k (suc i) n j (omega arith) (omega arith) e) (or-true (eqb k (f i))))

-- a function's values rise just where each is below those behind it
module _ (f : ℕ → ℕ) where
  pub rising_from : (i n : ℕ) → ((a b : ℕ) → i ≤ a → a < b → b < i + n → f a < f b) → Rising (from f i n)
  rising_from i zero h = tt
  rising_from i (suc n) h = (
    from_each f (λ k. f i < k) (suc i) n (λ k low high. h i k (omega arith) (omega arith) (omega arith)),
    rising_from (suc i) n (λ a b low less high. h a b (omega arith) less (omega arith)),
  )

  from_rising : (i n : ℕ) → Rising (from f i n) → (a b : ℕ) → i ≤ a → a < b → b < i + n → f a < f b
  from_rising i zero rising a b above less low = absurd (omega arith)
  from_rising i (suc n) rising a b above less low =
      by_eq a i (λ e. rw e (each_from f (λ k. f i < k) (suc i) n rising.0 b (omega arith) (omega arith)))
      (λ e. from_rising (suc i) n rising.1 a b (omega arith) less (omega arith))

-- where held numbers rise, each is below those behind it
pub rising_places : (w : List ℕ) (h : ℕ) → Rising (numbers (circuits w h))
    → (a b : ℕ) → a < b → b < h → number_at w a < number_at w b
rising_places w h rising a b less low =
    from_rising (number_at w) 0 h (subst Rising (numbers_held w h) rising) a b (omega arith) less (omega arith)

-- ---- a held number
-- where held numbers rise, a held one stands at its place
pub held_place : (w : List ℕ) (k : ℕ) → Rising (numbers (circuits w (held_in w))) → holds (circuits w (held_in w)) k ≡ true
    → (place_of w k < held_in w) × (k ≡ number_at w (place_of w k))
unfolding place_of
held_place w k rising has = (rw (← here) low, rw (← here) at.2)
  where
    at : (j : ℕ) × (j < 0 + get_or w 2 0) × (k ≡ number_at w j)
    at = memb_from (number_at w) k 0 (get_or w 2 0) (rw (numbers_held w (get_or w 2 0)) at has)

    low : at.0 < get_or w 2 0
    low = omega (arith, at.1)

    here : at.0 ≡ place_of w k
    here =
        first_here (λ j. leb k (number_at w j)) (get_or w 2 0) at.0
        (λ i less. lt-leb k (number_at w i) (omega (arith, at.2, rising_places w (get_or w 2 0) rising i at.0 less low)))
        low (le-leb k (number_at w at.0) (omega (arith, at.2)))

-- a number that stands at its place is held, whether numbers rise or not
pub there_held : (w : List ℕ) (k : ℕ) → place_of w k < held_in w → k ≡ number_at w (place_of w k)
    → holds (circuits w (held_in w)) k ≡ true
there_held w k low is =
    rw (numbers_held w (get_or w 2 0)) (from_memb (number_at w) k 0 (get_or w 2 0) (place_of w k) (omega arith) (omega arith) is)

-- whether a number is held is seen at its place alone
pub held_there : (w : List ℕ) (k : ℕ) → Rising (numbers (circuits w (held_in w)))
    → holds (circuits w (held_in w)) k ≡ (ltb (place_of w k) (held_in w) && eqb (number_at w (place_of w k)) k)
held_there w k rising =
    by_bool (holds (circuits w (held_in w)) k)
    (λ has.
    let there = held_place w k rising has in
    rw (has, lt-ltb (place_of w k) (held_in w) there.0, eq-eqb (number_at w (place_of w k)) k (sym there.1)) refl)
    (λ lacks.
    by_lt (place_of w k) (held_in w)
    (λ low.
    let other : number_at w (place_of w k) ≡ k → ⊥ = λ e. true≢false (sym (there_held w k low (sym e)) ∙ lacks) in
    rw (lacks, ne_eqb (number_at w (place_of w k)) k other, and-false (ltb (place_of w k) (held_in w))) refl)
    (λ high. rw (lacks, le-ltb (place_of w k) (held_in w) high) refl))
