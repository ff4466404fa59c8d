-- Small facts that the laws of the calls share: a grant is no refusal, a usable path is a path of the table, and what the
-- words of an area say of its books.
-- Assumes nothing.
use Prim.Native.Nat.{ℕ, ◌≤◌}
use mathlib.Core.Path.{◌≡◌, refl}
use mathlib.Core.Bool.{Bool, true, false, ◌||◌, false≢true}
use mathlib.Core.List.{List, [], ◌∷◌}
use native.Mathlib.Omega.{arith}
use lib.Dec.{eqb}
use lib.ListN.{length, get_or}
use borrow.Author.Tests.{eqb-true}
use Rattle.network.proofs.Tests.{zero_one}
use Rattle.network.specs.Lists.{All}
use Rattle.network.specs.Net.{Net, Walk, IsPath}
use Rattle.network.specs.declared.Request.{Request}
use Rattle.area.specs.Layout.{least_number, most_number}
use Rattle.area.specs.Refusals.{refuses, grants}
use Rattle.area.specs.Station.{Table, Circuit, head_of, station}
use Rattle.area.specs.Books.{Books, holds, books, net, whole}
use Rattle.area.specs.Formed.{CircuitFits}
use Rattle.area.proofs.Found.{held_length}
use Rattle.rules.specs.Meaning.{books_in}

-- ---- replies
pub granted_not_refused : {A : Type 0} (b : A) (n : ℕ) → refuses n ≡ grants b → ⊥
granted_not_refused b n e = zero_one cc

-- ---- a usable path as a circuit's
module _ (o : Books) (r : Request) where
  -- a usable path is a path of the table
  whole_walk : (s t : ℕ) (p : List ℕ) → Walk (net o r) s t p → Walk (whole o.table) s t p
  unfolding net whole
  whole_walk s t [] h = h
  whole_walk s t (i ∷ p) h = (h.0, refl, h.2, whole_walk (head_of o.table i) t p h.3)

  pub whole_path : (s t : ℕ) (p : List ℕ) → IsPath (net o r) s t p → IsPath (whole o.table) s t p
  unfolding net whole
  whole_path s t p h = record { some = h.some; walk = whole_walk s t p h.walk; distinct = h.distinct }

-- a path has a link or more
pub some_link : {g : Net} {s t : ℕ} (p : List ℕ) → IsPath g s t p → 1 ≤ length p
some_link [] h = absurd h.some
some_link (i ∷ p) h = omega arith

-- ---- what the words of an area say
-- as many circuits are held as word 2 says
pub count_is : (w : List ℕ) → (books_in w).count ≡ get_or w 2 0
unfolding books station
count_is w = held_length w (get_or w 2 0)

-- a held number is in its range
pub held_number : (t : Table) (l : List Circuit) (k : ℕ) → All (CircuitFits t) l → holds l k ≡ true → (least_number ≤ k) × (k ≤ most_number)
held_number t [] k h e = absurd (false≢true e)
held_number t (c ∷ l) k h e = go (eqb k c.number) refl e (held_number t l k h.1)
  where
    go : (b : Bool) → eqb k c.number ≡ b → (b || holds l k) ≡ true → (holds l k ≡ true → (least_number ≤ k) × (k ≤ most_number)) → (least_number ≤ k) × (k ≤ most_number)
    go true q e on = rw (eqb-true k c.number q) (h.0.number_least, h.0.number_most)
    go false q e on = on e
