-- The test of a path, as the code runs it: link by link, with the node reached and the set of nodes passed. What is still
-- to do comes to the same at every turn, because the test goes by the path's first link and then by the rest.
-- Assumes nothing.
use mathlib.Core.Path.{◌≡◌, refl, sym, ap, ◌∙◌}
use mathlib.Core.Bool.{Bool, true, false}
use mathlib.Core.List.{List, [], ◌∷◌}
use Prim.Native.Nat.{ℕ, suc, ◌+◌, ◌≤◌, ◌<◌}
use native.Mathlib.Numerals.{add-one}
use native.Mathlib.Omega.{arith}
use lib.Dec.{ltb}
use lib.ListN.{length, get_or, drop, drop_of_length-le}
use lib.Seq.{drop-cons}
use borrow.Author.Tests.{ltb-true, le-ltb}
use Rattle.network.specs.NodeSet.{inserted}
use Rattle.network.specs.Words.{field}
use Rattle.network.proofs.Tests.{fst_of}
use Rattle.area.specs.Formed.{goes_on, onward, path_fits}

module _ (m : ℕ) (words : List ℕ) where
  -- ---- one link
  -- a link that goes on is one of the table
  pub link_inside : (v set i : ℕ) → true ≡ goes_on m words v set i → i < m
  unfolding goes_on
  link_inside v set i e = ltb-true i m (fst_of (ltb i m) _ (sym e))

  -- ---- a path, link by link
  onward_on : (v set i : ℕ) (p : List ℕ) → goes_on m words v set i ≡ true
      → onward m words (field words i 1) (inserted set (field words i 1)) p ≡ onward m words v set (i ∷ p)
  unfolding onward
  onward_on v set i p h = rw h refl

  onward_off : (v set i : ℕ) (p : List ℕ) → goes_on m words v set i ≡ false → false ≡ onward m words v set (i ∷ p)
  unfolding onward
  onward_off v set i p h = rw h refl

  -- a path fits if its links go on from where the first begins
  path_first : (path : List ℕ) → 1 ≤ length path
      → onward m words (field words (get_or path 0 0) 0) (inserted 0 (field words (get_or path 0 0) 0)) path ≡ path_fits m words path
  unfolding path_fits
  path_first [] some = absurd (omega arith)
  path_first (i ∷ p) some = refl

  module _ (path : List ℕ) where
    -- the path from link k on
    from_link : (k i : ℕ) → k < length path → i ≡ get_or path k 0 → i ∷ drop (suc k) path ≡ drop k path
    from_link k i low e = rw e (sym (drop-cons path k 0 low))

    -- the first link is none of the table
    pub start_past : 1 ≤ length path → m ≤ get_or path 0 0 → false ≡ path_fits m words path
    unfolding path_fits goes_on
    start_past some high =
        let i : ℕ = get_or path 0 0 in
        onward_off (field words i 0) (inserted 0 (field words i 0)) i (drop 1 path) (rw (le-ltb i m high) refl)
        ∙ ap (path_fits m words) (from_link 0 i (omega arith) refl)

    -- before the first turn
    pub path_begins : (v none set : ℕ) → 1 ≤ length path → v ≡ field words (get_or path 0 0) 0 → none ≡ 0 → set ≡ inserted none v
        → onward m words v set (drop 0 path) ≡ path_fits m words path
    path_begins v none set some from empty put = rw (put, empty, from) (path_first path some)

    -- a turn whose link goes on
    pub path_goes : (k v set v' set' : ℕ) {r : Bool} → onward m words v set (drop k path) ≡ r → k < length path
        → true ≡ goes_on m words v set (get_or path k 0) → v' ≡ field words (get_or path k 0) 1 → set' ≡ inserted set v'
        → onward m words v' set' (drop (k + 1) path) ≡ r
    path_goes k v set v' set' rest low on to put =
        rw (add-one, put, to)
        (onward_on v set (get_or path k 0) (drop (suc k) path) (sym on) ∙ ap (onward m words v set) (from_link k _ low refl) ∙ rest)

    -- a turn whose link does not
    pub path_stops : (k v set : ℕ) {r : Bool} → onward m words v set (drop k path) ≡ r → k < length path
        → false ≡ goes_on m words v set (get_or path k 0) → false ≡ r
    path_stops k v set rest low off =
        onward_off v set (get_or path k 0) (drop (suc k) path) (sym off) ∙ ap (onward m words v set) (from_link k _ low refl) ∙ rest

    -- after the last turn
    pub path_ends : (k v set : ℕ) {r : Bool} → onward m words v set (drop k path) ≡ r → length path ≤ k → true ≡ r
    unfolding onward
    path_ends k v set rest high = sym (ap (onward m words v set) (drop_of_length-le path high)) ∙ rest
