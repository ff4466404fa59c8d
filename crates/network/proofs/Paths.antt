-- A path's test says what its statement says.
-- Assumes nothing.
use mathlib.Core.Path.{◌≡◌, refl}
use mathlib.Core.Bool.{Bool, true, false, ◌||◌, and-eq-true_iff, false≢true, true≢false}
use mathlib.Core.List.{List, [], ◌∷◌}
use Prim.Native.Nat.{ℕ, ◌<◌}
use lib.Dec.{eqb}
use borrow.Author.Tests.{ltb-true, eqb-true, eqb-false, lt-ltb, eq-eqb, ne_eqb, not-true}
use Rattle.network.specs.Lists.{All, memb, distinctb, Distinct}
use Rattle.network.proofs.Tests.{fst_of, snd_of}
use Rattle.network.specs.Net.{Net, Walk, walkb, nodes_of, IsPath, is_pathb}

-- ---- no number twice
pub apart : (a : ℕ) (l : List ℕ) → memb a l ≡ false → All (λ b. a ≡ b → ⊥) l
apart a [] e = tt
apart a (b ∷ l) e = go (apart a l) (eqb a b) refl e
  where
    go : (memb a l ≡ false → All (λ c. a ≡ c → ⊥) l) → (t : Bool) → eqb a b ≡ t → (t || memb a l) ≡ false → All (λ c. a ≡ c → ⊥) (b ∷ l)
    go rest true q e = absurd (true≢false e)
    go rest false q e = (eqb-false a b q, rest e)

unapart : (a : ℕ) (l : List ℕ) → All (λ b. a ≡ b → ⊥) l → memb a l ≡ false
unapart a [] h = refl
unapart a (b ∷ l) h = rw (ne_eqb a b h.0) (unapart a l h.1)

pub distinct_of : (l : List ℕ) → distinctb l ≡ true → Distinct l
distinct_of [] e = tt
distinct_of (a ∷ l) e =
    let h = simp and-eq-true_iff at e in
    (apart a l (not-true (memb a l) h.0), distinct_of l h.1)

pub distinct_test : (l : List ℕ) → Distinct l → distinctb l ≡ true
distinct_test [] h = refl
distinct_test (a ∷ l) h = rw (unapart a l h.0) (distinct_test l h.1)

-- ---- links that follow one another
pub walk_of : (g : Net) (s t : ℕ) (p : List ℕ) → walkb g s t p ≡ true → Walk g s t p
walk_of g s t [] e = eqb-true s t e
walk_of g s t (i ∷ p) e =
    let h = simp and-eq-true_iff at e in
    (ltb-true i g.links h.0, h.1.0, eqb-true (g.tail i) s h.1.1.0, walk_of g (g.head i) t p h.1.1.1)

pub walk_test : (g : Net) (s t : ℕ) (p : List ℕ) → Walk g s t p → walkb g s t p ≡ true
walk_test g s t [] h = eq-eqb s t h
walk_test g s t (i ∷ p) h = simp (lt-ltb i g.links h.0, h.1, eq-eqb (g.tail i) s h.2, walk_test g (g.head i) t p h.3)

-- every link of a walk is one of the network, and usable
pub walk_links : (g : Net) (s t : ℕ) (p : List ℕ) → Walk g s t p → (i : ℕ) → memb i p ≡ true → (i < g.links) × (g.usable i ≡ true)
walk_links g s t [] h i e = absurd (false≢true e)
walk_links g s t (j ∷ p) h i e = go (eqb i j) refl e (walk_links g (g.head j) t p h.3 i)
  where
    go : (b : Bool) → eqb i j ≡ b → (b || memb i p) ≡ true → (memb i p ≡ true → (i < g.links) × (g.usable i ≡ true))
        → (i < g.links) × (g.usable i ≡ true)
    go true q e on = rw (eqb-true i j q) (h.0, h.1)
    go false q e on = on e

pub path_of_lem : (g : Net) (s t : ℕ) (p : List ℕ) → is_pathb g s t p ≡ true → IsPath g s t p
path_of_lem g s t [] e = absurd (false≢true e)
path_of_lem g s t (i ∷ p) e = record { some = tt; walk = walk_of g s t (i ∷ p) (fst_of (walkb g s t (i ∷ p)) _ e); distinct = distinct_of (nodes_of g s (i ∷ p)) (snd_of (walkb g s t (i ∷ p)) _ e) }

pub path_test : (g : Net) (s t : ℕ) (p : List ℕ) → IsPath g s t p → is_pathb g s t p ≡ true
path_test g s t [] h = absurd h.some
path_test g s t (i ∷ p) h = simp (walk_test g s t (i ∷ p) h.walk, distinct_test (nodes_of g s (i ∷ p)) h.distinct)
