-- The order of circuits: a circuit put at its place changes nothing else, circuits by rising number are the ones that were
-- given, and two areas with the same bookings hold the same list of circuits, since a rising order leaves no choice.
-- Assumes nothing.
use Prim.Native.Nat.{ℕ, suc, ◌+◌, ◌-◌, ◌≤◌, ◌<◌}
use mathlib.Core.Path.{◌≡◌, refl, sym, ap, ap₂, ◌∙◌, subst}
use mathlib.Core.Bool.{Bool, true, false, ◌||◌, true≢false}
use mathlib.Core.List.{List, [], ◌∷◌}
use mathlib.Core.Logic.{◌↔◌, inl, inr}
use native.Mathlib.Omega.{arith}
use lib.Dec.{ltb, eqb}
use lib.ListN.{length}
use borrow.Author.Tests.{ltb-true, ltb-false, lt-ltb, eqb-true, eqb-false, eq-eqb, ne_eqb, not-true}
use Rattle.network.specs.Lists.{All, distinctb, Distinct}
use Rattle.network.proofs.Tests.{by_test, fst_of}
use Rattle.network.proofs.Paths.{distinct_test}
use Rattle.area.specs.Station.{Table, Circuit, capacity_of}
use Rattle.area.specs.Books.{units_on, usage, numbers, holds, books}
use Rattle.area.specs.Order.{Rising, placed, by_number, Among, SameBookings}
use Rattle.area.specs.Moves.{without}
use Rattle.area.proofs.Each.{all_then}

-- ---- a circuit put at its place
-- `placed` at a circuit, by its two cases
module _ (c d : Circuit) (l : List Circuit) (P : List Circuit → Type 0) where
  placed_by : (d.number < c.number → P (d ∷ placed c l)) → (c.number ≤ d.number → P (c ∷ d ∷ l)) → P (placed c (d ∷ l))
  placed_by behind before =
      by_test (ltb d.number c.number) (d ∷ placed c l) (c ∷ d ∷ l) P (λ e. behind (ltb-true _ _ e)) (λ e. before (ltb-false _ _ e))

-- it takes its units besides
pub usage_placed : (c : Circuit) (l : List Circuit) (i : ℕ) → usage (placed c l) i ≡ units_on c i + usage l i
usage_placed c [] i = refl
usage_placed c (d ∷ l) i =
    placed_by c d l (λ m. usage m i ≡ units_on c i + usage (d ∷ l) i) (λ low. omega (arith, usage_placed c l i)) (λ high. refl)

-- its number is held besides
or_swap : (a b c : Bool) → (a || (b || c)) ≡ (b || (a || c))
or_swap true true c = refl
or_swap true false c = refl
or_swap false b c = refl

pub holds_placed : (c : Circuit) (l : List Circuit) (k : ℕ) → holds (placed c l) k ≡ (eqb k c.number || holds l k)
holds_placed c [] k = refl
holds_placed c (d ∷ l) k =
    placed_by c d l (λ m. holds m k ≡ (eqb k c.number || holds (d ∷ l) k))
    (λ low. ap (λ (b : Bool). eqb k d.number || b) (holds_placed c l k) ∙ or_swap (eqb k d.number) (eqb k c.number) (holds l k)) (λ high. refl)

-- one more is held
pub count_placed : (c : Circuit) (l : List Circuit) → length (placed c l) ≡ suc (length l)
count_placed c [] = refl
count_placed c (d ∷ l) =
    placed_by c d l (λ m. length m ≡ suc (length (d ∷ l))) (λ low. ap suc (count_placed c l)) (λ high. refl)

-- what holds of it and of the others holds of all, and what holds of all holds of the others
pub each_placed : (P : Circuit → Type 0) (c : Circuit) (l : List Circuit) → P c → All P l → All P (placed c l)
each_placed P c [] h all = (h, tt)
each_placed P c (d ∷ l) h all = placed_by c d l (All P) (λ low. (all.0, each_placed P c l h all.1)) (λ high. (h, all))

numbers_placed : (P : ℕ → Type 0) (c : Circuit) (l : List Circuit) → P c.number → All P (numbers l) → All P (numbers (placed c l))
numbers_placed P c [] h all = (h, tt)
numbers_placed P c (d ∷ l) h all =
    placed_by c d l (λ m. All P (numbers m)) (λ low. (all.0, numbers_placed P c l h all.1)) (λ high. (h, all))

numbers_others : (P : ℕ → Type 0) (c : Circuit) (l : List Circuit) → All P (numbers (placed c l)) → All P (numbers l)
numbers_others P c [] all = tt
numbers_others P c (d ∷ l) all =
    placed_by c d l (λ m. All P (numbers m) → All P (numbers (d ∷ l))) (λ low a. (a.0, numbers_others P c l a.1)) (λ high a. a.1) all

-- a number that is not held leaves the order rising
higher : (a b : ℕ) → a ≤ b → (l : List ℕ) → All (λ n. b < n) l → All (λ n. a < n) l
higher a b low l all = all_then {Q = λ n. a < n} (λ n h. omega (arith, low, h)) l all

pub rising_placed : (c : Circuit) (l : List Circuit) → Rising (numbers l) → holds l c.number ≡ false → Rising (numbers (placed c l))
rising_placed c [] rising new = (tt, tt)
rising_placed c (d ∷ l) rising new =
    placed_by c d l (λ m. Rising (numbers m))
    (λ low. (numbers_placed (λ b. d.number < b) c l low rising.0, rising_placed c l rising.1 (rw (ne_eqb c.number d.number (λ e. omega arith)) at new)))
    (λ high.
    let apart : c.number ≡ d.number → ⊥ = λ e. true≢false (sym (ap (λ (b : Bool). b || holds l c.number) (eq-eqb c.number d.number e)) ∙ new) in
    let low : c.number < d.number = omega (arith, high, apart) in
    ((low, higher c.number d.number high (numbers l) rising.0), rising))

-- and without it the others rise as they did
rising_others : (c : Circuit) (l : List Circuit) → Rising (numbers (placed c l)) → Rising (numbers l)
rising_others c [] rising = tt
rising_others c (d ∷ l) rising =
    placed_by c d l (λ m. Rising (numbers m) → Rising (numbers (d ∷ l)))
    (λ low h. (numbers_others (λ b. d.number < b) c l h.0, rising_others c l h.1)) (λ high h. h.1) rising

-- ---- a circuit taken out
-- `without` at a circuit, by its two cases
module _ (k : ℕ) (c : Circuit) (l : List Circuit) (P : List Circuit → Type 0) where
  pub without_by : (k ≡ c.number → P (without k l)) → ((k ≡ c.number → ⊥) → P (c ∷ without k l)) → P (without k (c ∷ l))
  without_by same other =
      by_test (eqb k c.number) (without k l) (c ∷ without k l) P (λ e. same (eqb-true k c.number e)) (λ e. other (eqb-false k c.number e))

pub numbers_without : (P : ℕ → Type 0) (k : ℕ) (l : List Circuit) → All P (numbers l) → All P (numbers (without k l))
numbers_without P k [] all = tt
numbers_without P k (c ∷ l) all =
    without_by k c l (λ m. All P (numbers m)) (λ e. numbers_without P k l all.1) (λ e. (all.0, numbers_without P k l all.1))

pub rising_without : (k : ℕ) (l : List Circuit) → Rising (numbers l) → Rising (numbers (without k l))
rising_without k [] rising = tt
rising_without k (c ∷ l) rising =
    without_by k c l (λ m. Rising (numbers m)) (λ e. rising_without k l rising.1)
    (λ e. (numbers_without (λ b. c.number < b) k l rising.0, rising_without k l rising.1))

-- one that does not go
without_other : (k : ℕ) (c : Circuit) (l : List Circuit) → (k ≡ c.number → ⊥) → without k (c ∷ l) ≡ c ∷ without k l
without_other k c l other = rw (ne_eqb k c.number other) refl

-- the one that was put there goes again
placed_gone : (k : ℕ) (c : Circuit) (l : List Circuit) → k ≡ c.number → without k (placed c l) ≡ without k l
placed_gone k c [] e = rw (eq-eqb k c.number e) refl
placed_gone k c (d ∷ l) e =
    placed_by c d l (λ m. without k m ≡ without k (d ∷ l))
    (λ low.
    let other : k ≡ d.number → ⊥ = λ q. omega (arith, low, e, q) in
    without_other k d (placed c l) other ∙ ap (λ (m : List Circuit). d ∷ m) (placed_gone k c l e) ∙ sym (without_other k d l other))
    (λ high. rw (eq-eqb k c.number e) refl)

-- before circuits with no lower number it is the first
placed_first : (c : Circuit) (l : List Circuit) → All (λ b. c.number ≤ b) (numbers l) → placed c l ≡ c ∷ l
placed_first c [] all = refl
placed_first c (d ∷ l) all = placed_by c d l (λ m. m ≡ c ∷ d ∷ l) (λ low. absurd (omega (arith, low, all.0))) (λ high. refl)

-- among rising numbers it has the same place whether another is out or not
placed_without : (k : ℕ) (c : Circuit) (l : List Circuit) → (k ≡ c.number → ⊥) → Rising (numbers l) → without k (placed c l) ≡ placed c (without k l)
placed_without k c [] other rising = without_other k c [] other
placed_without k c (d ∷ l) other rising =
    placed_by c d l (λ m. without k m ≡ placed c (without k (d ∷ l)))
    (λ low.
    without_by k d (placed c l) (λ m. m ≡ placed c (without k (d ∷ l)))
    (λ e. placed_without k c l other rising.1 ∙ ap (placed c) (sym (gone e)))
    (λ e.
    ap (λ (m : List Circuit). d ∷ m) (placed_without k c l other rising.1)
    ∙ sym (placed_behind low (without k l))
    ∙ ap (placed c) (sym (without_other k d l e))))
    (λ high.
    without_other k c (d ∷ l) other
    ∙ sym (placed_first c (without k (d ∷ l)) (numbers_without (λ b. c.number ≤ b) k (d ∷ l) (high, lowest high))))
  where
    gone : k ≡ d.number → without k (d ∷ l) ≡ without k l
    gone e = rw (eq-eqb k d.number e) refl

    placed_behind : d.number < c.number → (m : List Circuit) → placed c (d ∷ m) ≡ d ∷ placed c m
    placed_behind low m = rw (lt-ltb d.number c.number low) refl

    lowest : c.number ≤ d.number → All (λ b. c.number ≤ b) (numbers l)
    lowest high = all_then {Q = λ b. c.number ≤ b} (λ b h. omega (arith, high, h)) (numbers l) rising.0

-- ---- circuits by rising number
usage_by_number : (l : List Circuit) (i : ℕ) → usage (by_number l) i ≡ usage l i
usage_by_number [] i = refl
usage_by_number (c ∷ l) i = usage_placed c (by_number l) i ∙ ap (λ (n : ℕ). units_on c i + n) (usage_by_number l i)

holds_by_number : (l : List Circuit) (k : ℕ) → holds (by_number l) k ≡ holds l k
holds_by_number [] k = refl
holds_by_number (c ∷ l) k = holds_placed c (by_number l) k ∙ ap (λ (b : Bool). eqb k c.number || b) (holds_by_number l k)

count_by_number : (l : List Circuit) → length (by_number l) ≡ length l
count_by_number [] = refl
count_by_number (c ∷ l) = count_placed c (by_number l) ∙ ap suc (count_by_number l)

-- they have the books of those that were given
pub books_by_number : (t : Table) (l : List Circuit) → books (record { table = t; held = by_number l }) ≡ books (record { table = t; held = l })
unfolding books
books_by_number t l =
    λ i. record {
      table = t;
      free = λ j. capacity_of t j - usage_by_number l j i;
      holds = λ k. holds_by_number l k i;
      count = count_by_number l i;
    }

-- a number taken out before or after
pub without_by_number : (k : ℕ) (l : List Circuit) → Rising (numbers (by_number l)) → without k (by_number l) ≡ by_number (without k l)
without_by_number k [] rising = refl
without_by_number k (c ∷ l) rising =
    let others = rising_others c (by_number l) rising in
    let rest = without_by_number k l others in
    without_by k c l (λ m. without k (by_number (c ∷ l)) ≡ by_number m) (λ e. placed_gone k c (by_number l) e ∙ rest)
    (λ e. placed_without k c (by_number l) e others ∙ ap (placed c) rest)

-- numbers that differ rise
pub rising_by_number : (l : List Circuit) → Distinct (numbers l) → Rising (numbers (by_number l))
rising_by_number [] differ = tt
rising_by_number (c ∷ l) differ =
    rising_placed c (by_number l) (rising_by_number l differ.1)
    (holds_by_number l c.number ∙ not-true (holds l c.number) (fst_of _ (distinctb (numbers l)) (distinct_test (numbers (c ∷ l)) differ)))

-- ---- the same bookings
-- a circuit in front of two lists of the same circuits, of which the one begins with c
among_behind : (d c a : Circuit) (l m : List Circuit) → Among d m ↔ Among d (c ∷ l) → Among d (a ∷ m) ↔ Among d (c ∷ a ∷ l)
among_behind d c a l m same = (to, back)
  where
    later : Among d (c ∷ l) → Among d (c ∷ a ∷ l)
    later (inl e) = inl e
    later (inr h) = inr (inr h)

    to : Among d (a ∷ m) → Among d (c ∷ a ∷ l)
    to (inl e) = inr (inl e)
    to (inr h) = later (same.0 h)

    back : Among d (c ∷ a ∷ l) → Among d (a ∷ m)
    back (inl e) = inr (same.1 (inl e))
    back (inr (inl e)) = inl e
    back (inr (inr h)) = inr (same.1 (inr h))

-- a circuit put at its place is there besides
among_placed : (d c : Circuit) (l : List Circuit) → Among d (placed c l) ↔ Among d (c ∷ l)
among_placed d c [] = (λ h. h, λ h. h)
among_placed d c (a ∷ l) =
    let rest = among_placed d c l in
    placed_by c a l (λ m. Among d m ↔ Among d (c ∷ a ∷ l)) (λ low. among_behind d c a l (placed c l) rest) (λ high. (λ h. h, λ h. h))

among_more : (d c : Circuit) (l m : List Circuit) → Among d l ↔ Among d m → Among d (c ∷ l) → Among d (c ∷ m)
among_more d c l m same (inl e) = inl e
among_more d c l m same (inr h) = inr (same.0 h)

-- circuits by rising number are the ones that were given
pub same_by_number : (l : List Circuit) → SameBookings (by_number l) l
same_by_number [] d = (λ h. h, λ h. h)
same_by_number (c ∷ l) d =
    let rest = same_by_number l d in
    let put = among_placed d c (by_number l) in (
      λ h. among_more d c (by_number l) l rest (put.0 h),
      λ h. put.1 (among_more d c l (by_number l) (rest.1, rest.0) h),
    )

-- equal lists are the same bookings
pub equal_same : {l m : List Circuit} → l ≡ m → SameBookings l m
equal_same e c = (subst (Among c) e, subst (Among c) (sym e))

-- one among circuits with higher numbers has a higher number
among_higher : (n : ℕ) (d : Circuit) (l : List Circuit) → All (λ b. n < b) (numbers l) → Among d l → n < d.number
among_higher n d [] all h = absurd h
among_higher n d (c ∷ l) all (inl e) = rw e all.0
among_higher n d (c ∷ l) all (inr h) = among_higher n d l all.1 h

-- the first of two lists by rising number, and then the others
first_same : (c d : Circuit) (l m : List Circuit) → Rising (numbers (c ∷ l)) → Rising (numbers (d ∷ m)) → Among c (d ∷ m) → Among d (c ∷ l) → c ≡ d
first_same c d l m rising rising' (inl e) k = e
first_same c d l m rising rising' (inr h) (inl e) = sym e
first_same c d l m rising rising' (inr h) (inr k) =
    absurd (omega (arith, among_higher d.number c m rising'.0 h, among_higher c.number d l rising.0 k))

others_same : (c d e : Circuit) (l m : List Circuit) → All (λ b. c.number < b) (numbers l) → c ≡ d → (Among e (c ∷ l) → Among e (d ∷ m)) → Among e l → Among e m
others_same c d e l m high same to h = go (to (inr h))
  where
    go : Among e (d ∷ m) → Among e m
    go (inl q) =
        let low = among_higher c.number e l high h in
        absurd (omega (arith, low, ap (λ (f : Circuit). f.number) (q ∙ sym same)))
    go (inr k) = k

-- a rising order leaves no choice: the same bookings are the same list
pub same_list : (l m : List Circuit) → Rising (numbers l) → Rising (numbers m) → SameBookings l m → l ≡ m
same_list [] [] rising rising' same = refl
same_list [] (d ∷ m) rising rising' same = absurd ((same d).1 (inl refl))
same_list (c ∷ l) [] rising rising' same = absurd ((same c).0 (inl refl))
same_list (c ∷ l) (d ∷ m) rising rising' same =
    let first = first_same c d l m rising rising' ((same c).0 (inl refl)) ((same d).1 (inl refl)) in
    ap₂ ◌∷◌ first
    (same_list l m rising.1 rising'.1 λ e. (
      others_same c d e l m rising.0 first (same e).0,
      others_same d c e m l rising'.0 (sym first) (same e).1,
    ))
