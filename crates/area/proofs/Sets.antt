-- Words stored one after another from a place on: those before it and past the last one stay.
-- Assumes nothing.
use mathlib.Core.Path.{◌≡◌, refl, ◌∙◌}
use mathlib.Core.List.{List, [], ◌∷◌, ◌++◌}
use Prim.Native.Nat.{ℕ, zero, suc, ◌+◌, ◌≤◌, ◌<◌}
use native.Mathlib.Nat.{add-zero, add-suc, suc-add}
use native.Mathlib.Omega.{arith}
use lib.ListN.{length, get_or, set, length-set}
use lib.Seq.{sets, get_or-set_same, get_or-set_other}

pub sets_before : (l : List ℕ) (a : ℕ) (vs : List ℕ) (i : ℕ) → i < a → get_or (sets l a vs) i 0 ≡ get_or l i 0
sets_before l a [] i h = refl
sets_before l a (v ∷ vs) i h = sets_before (set l a v) (suc a) vs i (omega arith) ∙ get_or-set_other l a i v 0 (omega arith)

pub sets_in : (l : List ℕ) (a : ℕ) (vs : List ℕ) (i : ℕ) → a + length vs ≤ length l → i < length vs → get_or (sets l a vs) (a + i) 0 ≡ get_or vs i 0
sets_in l a [] i fits h = absurd (omega arith)
sets_in l a (v ∷ vs) zero fits h =
    rw add-zero (sets_before (set l a v) (suc a) vs a (omega arith) ∙ get_or-set_same l a v 0 (omega arith))
sets_in l a (v ∷ vs) (suc i) fits h =
    rw (add-suc, ← suc-add a i) (sets_in (set l a v) (suc a) vs i (rw length-set (omega arith)) (omega arith))

pub sets_past : (l : List ℕ) (a : ℕ) (vs : List ℕ) (i : ℕ) → a + length vs ≤ i → get_or (sets l a vs) i 0 ≡ get_or l i 0
sets_past l a [] i h = refl
sets_past l a (v ∷ vs) i h = sets_past (set l a v) (suc a) vs i (omega arith) ∙ get_or-set_other l a i v 0 (omega arith)

-- two lists stored one behind the other
pub sets_both : (l : List ℕ) (a : ℕ) (vs us : List ℕ) → sets l a (vs ++ us) ≡ sets (sets l a vs) (a + length vs) us
sets_both l a [] us = rw add-zero
sets_both l a (v ∷ vs) us = rw (add-suc, ← suc-add a (length vs)) (sets_both (set l a v) (suc a) vs us)
