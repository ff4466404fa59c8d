-- Soundness is kept by a circuit more, where it fits, its number is new and its units are free, and by a circuit less.
-- Also what is held once a number is gone.
-- Assumes nothing.
use mathlib.Core.Path.{◌≡◌, refl, sym, ap, ◌∙◌}
use mathlib.Core.Bool.{Bool, true, false, ◌||◌, false≢true}
use mathlib.Core.List.{List, [], ◌∷◌}
use Prim.Native.Nat.{ℕ, ◌+◌, ◌≤◌, ◌<◌}
use native.Mathlib.Omega.{arith}
use lib.Dec.{eqb}
use lib.ListN.{length}
use borrow.Author.Tests.{ne_eqb, not-true}
use Rattle.network.specs.Lists.{All, memb, distinctb, Distinct}
use Rattle.network.proofs.Tests.{by_test, fst_of}
use Rattle.network.proofs.Paths.{distinct_test}
use Rattle.area.specs.Layout.{most_circuits}
use Rattle.area.specs.Station.{Circuit, Station, capacity_of}
use Rattle.area.specs.Books.{units_on, usage, numbers, holds, free}
use Rattle.area.specs.Formed.{CircuitFits, SoundStation}
use Rattle.area.specs.Moves.{without, with_circuit, without_number}
use Rattle.area.proofs.Order.{usage_placed, count_placed, each_placed, rising_placed, without_by, rising_without}

-- ---- a circuit more
-- a circuit that fits, with a number of its own and units that are free on its links
pub sound_added : (s : Station) (c : Circuit) → SoundStation s → length s.held < most_circuits → CircuitFits s.table c
    → holds s.held c.number ≡ false
    → ((i : ℕ) → memb i c.path ≡ true → c.units ≤ free s i)
    → SoundStation (with_circuit s c)
sound_added s c h room fits other enough =
    record {
      table = h.table;
      few = omega (arith, room, count_placed c s.held);
      each = each_placed (CircuitFits s.table) c s.held fits h.each;
      rising = rising_placed c s.held h.rising other;
      within = λ i low. omega (arith, usage_placed c s.held i, within i low);
    }
  where
    within : (i : ℕ) → i < s.table.links → units_on c i + usage s.held i ≤ capacity_of s.table i
    within i low =
        by_test (memb i c.path) c.units 0 (λ (u : ℕ). u + usage s.held i ≤ capacity_of s.table i)
        (λ e. omega (arith, enough i e, h.within i low)) (λ e. omega (arith, h.within i low))

-- ---- a circuit less
fewer : (k : ℕ) (l : List Circuit) → length (without k l) ≤ length l
fewer k [] = omega arith
fewer k (c ∷ l) = without_by k c l (λ m. length m ≤ length (c ∷ l)) (λ e. omega (arith, fewer k l)) (λ e. omega (arith, fewer k l))

each_without : (P : Circuit → Type 0) (k : ℕ) (l : List Circuit) → All P l → All P (without k l)
each_without P k [] h = tt
each_without P k (c ∷ l) h = without_by k c l (All P) (λ e. each_without P k l h.1) (λ e. (h.0, each_without P k l h.1))

usage_without : (k : ℕ) (l : List Circuit) (i : ℕ) → usage (without k l) i ≤ usage l i
usage_without k [] i = omega arith
usage_without k (c ∷ l) i =
    without_by k c l (λ m. usage m i ≤ usage (c ∷ l) i) (λ e. omega (arith, usage_without k l i)) (λ e. omega (arith, usage_without k l i))

-- the circuits that are left fit as before, rise as before, and take no more units
pub sound_removed : (s : Station) (k : ℕ) → SoundStation s → SoundStation (without_number s k)
sound_removed s k h =
    record {
      table = h.table;
      few = omega (arith, fewer k s.held, h.few);
      each = each_without (CircuitFits s.table) k s.held h.each;
      rising = rising_without k s.held h.rising;
      within = λ i low. omega (arith, usage_without k s.held i, h.within i low);
    }

-- ---- what is held once a number is gone
or_none : (a b : Bool) → (a || b) ≡ false → (a ≡ false) × (b ≡ false)
or_none true b e = absurd (false≢true (sym e))
or_none false b e = (refl, e)

-- a number that is not held: nothing goes
pub without_none : (k : ℕ) (l : List Circuit) → holds l k ≡ false → without k l ≡ l
without_none k [] e = refl
without_none k (c ∷ l) e =
    let h = or_none (eqb k c.number) (holds l k) e in
    rw h.0 (ap (λ (m : List Circuit). c ∷ m) (without_none k l h.1))

pub unheld_stays : (s : Station) (k : ℕ) → holds s.held k ≡ false → without_number s k ≡ s
unheld_stays s k e =
    ap (λ (held : List Circuit). record { table = s.table; held = held }) (without_none k s.held e)

-- a number that is held: one circuit goes
pub without_one : (k : ℕ) (l : List Circuit) → Distinct (numbers l) → holds l k ≡ true → length (without k l) + 1 ≡ length l
without_one k [] h e = absurd (false≢true e)
without_one k (c ∷ l) h e =
    without_by k c l (λ m. length m + 1 ≡ length (c ∷ l)) (λ q. omega (arith, ap (λ (m : List Circuit). length m) (without_none k l (rest q))))
    (λ q. let on = without_one k l h.1 (rw (ne_eqb k c.number q) at e) in omega (arith, on))
  where
    rest : k ≡ c.number → holds l k ≡ false
    rest q = rw q (not-true (holds l c.number) (fst_of _ (distinctb (numbers l)) (distinct_test (numbers (c ∷ l)) h)))

-- the number is no longer held
pub without_gone : (k : ℕ) (l : List Circuit) → holds (without k l) k ≡ false
without_gone k [] = refl
without_gone k (c ∷ l) =
    without_by k c l (λ m. holds m k ≡ false) (λ q. without_gone k l) (λ q. rw (ne_eqb k c.number q) (without_gone k l))

-- every other number is held as before
pub without_others : (k j : ℕ) (l : List Circuit) → (k ≡ j → ⊥) → holds (without k l) j ≡ holds l j
without_others k j [] ne = refl
without_others k j (c ∷ l) ne =
    without_by k c l (λ m. holds m j ≡ holds (c ∷ l) j)
    (λ q. rw (ne_eqb j c.number (λ z. ne (q ∙ sym z))) (without_others k j l ne))
    (λ q. ap (λ (b : Bool). eqb j c.number || b) (without_others k j l ne))
