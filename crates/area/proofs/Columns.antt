-- What a search is handed for each link beside its ends: a list that is filled in link by link, and a link's delay with the hold
-- time of the node that it enters, which is in its range where the area is well formed.
-- Assumes nothing.
use Prim.Native.Nat.{ℕ, ◌+◌, ◌≤◌, ◌<◌}
use mathlib.Core.Path.{◌≡◌, refl, ◌∙◌}
use mathlib.Core.Bool.{Bool, true, false, cond}
use mathlib.Core.List.{List}
use native.Mathlib.Omega.{arith}
use lib.Dec.{eqb}
use lib.ListN.{length, get_or, set}
use lib.Seq.{get_or-set_same, get_or-set_other}
use Rattle.network.specs.Limits.{most_delay, most_hold}
use Rattle.network.specs.Words.{field}
use Rattle.network.proofs.Tests.{by_eq}
use Rattle.area.specs.Station.{nodes_in, links_in, table_in, hold_of}
use Rattle.area.specs.Books.{hold_into, delay_to}
use Rattle.area.specs.Formed.{well_formed}
use Rattle.area.proofs.ReadCases.{formed_ends, formed_holds}

-- ---- a list filled in
-- the first n entries are those that f gives; past its end a list reads d
abbrev pub FilledTo : {A : Type 0} → A → (ℕ → A) → ℕ → List A → Type 0
FilledTo d f n l = (i : ℕ) → i < n → get_or l i d ≡ f i

pub filled_more : {A : Type 0} (d : A) (f : ℕ → A) (n : ℕ) (l : List A) → FilledTo d f n l → n < length l → (entry : A) → entry ≡ f n
    → FilledTo d f (n + 1) (set l n entry)
filled_more d f n l filled room entry e i low =
    by_eq i n (λ here. rw here (get_or-set_same l n entry d room ∙ e))
    (λ other. get_or-set_other l n i entry d other ∙ filled i (omega arith))

-- ---- a link's delay
module _ (w : List ℕ) (formed : well_formed w ≡ true) (target : ℕ) where
  -- a link leads to a node
  pub enters_node : (i : ℕ) → i < links_in w → (words : List ℕ) → words ≡ (table_in w).words → field words i 1 < nodes_in w
  unfolding table_in
  enters_node i low words is = rw is (formed_ends w formed i low).to

  hold_low : (v : ℕ) → v < nodes_in w → hold_into (table_in w) target v ≤ most_hold
  hold_low v low = go (eqb v target)
    where
      go : (b : Bool) → cond b 0 (hold_of (table_in w) v) ≤ most_hold
      go true = omega arith
      go false = formed_holds w formed v low

  -- it is in the range that a search relies on
  pub delay_low : (i : ℕ) → i < links_in w → delay_to (table_in w) target i ≤ most_delay + most_hold
  unfolding delay_to table_in
  delay_low i low =
      let ends = formed_ends w formed i low in
      omega (arith, ends.delay, hold_low (field (table_in w).words i 1) ends.to)

  -- and is its own and the hold time of the node, as the code reads them
  pub delay_is : (i : ℕ) (words : List ℕ) → words ≡ (table_in w).words → (own held v : ℕ) → own ≡ field words i 2 → v ≡ field words i 1
      → held ≡ hold_into (table_in w) target v
      → own + held ≡ delay_to (table_in w) target i
  unfolding delay_to
  delay_is i words is own held v e e' e'' = rw (e, e'', e', is) refl
