-- `distance` is document 01's distance: layer k holds just the ends of the walks of at most k links, and a walk
-- with its loops cut is a path of no more links.
-- Assumes nothing.
use mathlib.Core.Path.{◌≡◌, refl, sym, ◌∙◌}
use mathlib.Core.Bool.{Bool, true, false, ◌&&◌, false≢true}
use mathlib.Core.List.{List, [], ◌∷◌, ◌++◌}
use Prim.Native.Nat.{ℕ, zero, suc, ◌+◌, ◌-◌, ◌≤◌, ◌<◌}
use native.Mathlib.Nat.{le_refl, add-zero}
use native.Mathlib.Omega.{arith}
use lib.ListN.{length, length-append}
use borrow.Author.Tests.{lt-ltb, le-ltb}
use Rattle.std.specs.Prelude.{Option, Some, None}
use Rattle.network.specs.Limits.{most_nodes}
use Rattle.network.specs.Loops.{iter}
use Rattle.network.specs.Net.{Net, Ends, Walk, IsPath, sum}
use Rattle.network.specs.NodeSet.{member, inserted}
use Rattle.network.specs.Problem.{Distance, NoPath}
use Rattle.network.specs.Cut.{cut}
use Rattle.network.proofs.Tests.{by_test, by_eq, by_lt, fst_of, snd_of}
use Rattle.network.proofs.Loops.{iter_keeps, iter_brings, first_passes, first_before, first_here, first_nowhere}
use Rattle.network.proofs.NodeSet.{member_empty, member_inserted, member_others, inserted_keeps}
use Rattle.network.proofs.Short.{path_short}
use Rattle.network.proofs.Cut.{cut_walk, cut_path}
use Rattle.search.specs.Distance.{leaves, spread_link, spread, layer, distance, distance_if_any}

-- the number of a walk's links is the sum of ones
ones : (p : List ℕ) → sum (λ i. 1) p ≡ length p
ones [] = refl
ones (i ∷ p) = omega (arith, ones p)

-- a walk and one link more
walk_snoc : (g : Net) (s i : ℕ) (p : List ℕ) → i < g.links → g.usable i ≡ true → Walk g s (g.tail i) p → Walk g s (g.head i) (p ++ i ∷ [])
walk_snoc g s i [] low u w = (low, u, sym w, refl)
walk_snoc g s i (j ∷ p) low u w = (w.0, w.1, w.2, walk_snoc g (g.head j) i p low u w.3)

-- ---- node sets
inserted_only : (P : ℕ → Type 0) (a v w : ℕ) → P v → (member a w ≡ true → P w) → member (inserted a v) w ≡ true → P w
inserted_only P a v w here there h = by_eq v w (λ e. rw e at here) (λ e. there (sym (member_others a v w e) ∙ h))

module _ (g : Net) where
  -- ---- what `spread` adds to a set
  module _ (a : ℕ) where
    -- a link's two cases
    by_link : (i m : ℕ) (P : ℕ → Type 0) → (g.usable i ≡ true → member a (g.tail i) ≡ true → P (inserted m (g.head i)))
        → ((g.usable i && member a (g.tail i)) ≡ false → P m)
        → P (spread_link g a i m)
    by_link i m P adds skips =
        by_test (leaves g a i) (inserted m (g.head i)) m P
        (λ e. adds (fst_of (g.usable i) _ e) (snd_of (g.usable i) _ e)) skips

    link_keeps : (v i m : ℕ) → member m v ≡ true → member (spread_link g a i m) v ≡ true
    link_keeps v i m h = by_link i m (λ (x : ℕ). member x v ≡ true) (λ u e. inserted_keeps m (g.head i) v h) (λ e. h)

    spread_keeps : (v : ℕ) → member a v ≡ true → member (spread g a) v ≡ true
    unfolding spread
    spread_keeps v h = iter_keeps (spread_link g a) (λ (x : ℕ). member x v ≡ true) g.links a (λ i m low. link_keeps v i m) h

    spread_adds : (i : ℕ) → i < g.links → g.usable i ≡ true → member a (g.tail i) ≡ true → member (spread g a) (g.head i) ≡ true
    unfolding spread
    spread_adds i low u h =
        iter_brings (spread_link g a) (λ _. Unit {0}) (λ (x : ℕ). member x (g.head i) ≡ true) i g.links low (λ _ _ _ _. tt)
        (λ m _. by_link i m (λ (x : ℕ). member x (g.head i) ≡ true) (λ _ _. member_inserted m (g.head i)) (λ e. absurd (false≢true (sym e ∙ simp (u, h)))))
        (link_keeps (g.head i)) a tt

    spread_only : (P : ℕ → Type 0) → ((v : ℕ) → member a v ≡ true → P v)
        → ((i : ℕ) → i < g.links → g.usable i ≡ true → member a (g.tail i) ≡ true → P (g.head i))
        → (v : ℕ) → member (spread g a) v ≡ true → P v
    unfolding spread
    spread_only P old new =
        iter_keeps (spread_link g a) (λ (x : ℕ). (v : ℕ) → member x v ≡ true → P v) g.links a
        (λ i m low all. by_link i m (λ (x : ℕ). (v : ℕ) → member x v ≡ true → P v)
        (λ u e v. inserted_only P m (g.head i) v (new i low u e) (all v)) (λ e. all)) old

  -- ---- the layers
  module _ (s : ℕ) where
    -- a node of layer k is the end of a walk of at most k links
    layer_reached : (k v : ℕ) → member (layer g s k) v ≡ true → (p : List ℕ) × Walk g s v p × (length p ≤ k)
    unfolding layer iter
    layer_reached zero v h =
        inserted_only (λ (u : ℕ). (p : List ℕ) × Walk g s u p × (length p ≤ 0)) 0 s v ([], refl, le_refl 0)
        (λ e. absurd (false≢true (sym (member_empty v) ∙ e))) h
    layer_reached (suc k) v h =
        spread_only (layer g s k) (λ v. (p : List ℕ) × Walk g s v p × (length p ≤ suc k))
        (λ v h. let r = layer_reached k v h in (r.0, r.1, omega (arith, r.2)))
        (λ i low u h. let r = layer_reached k (g.tail i) h in
        (r.0 ++ i ∷ [], walk_snoc g s i r.0 low u r.1, omega (arith, length-append r.0 (i ∷ []), r.2)))
        v h

    -- a layer is in those after it
    layer_more : (k j v : ℕ) → member (layer g s k) v ≡ true → member (layer g s (k + j)) v ≡ true
    unfolding layer iter
    layer_more k zero v h = rw add-zero h
    layer_more k (suc j) v h =
        let e : k + suc j ≡ suc (k + j) = omega arith in
        rw e (spread_keeps (layer g s (k + j)) v (layer_more k j v h))

    -- each link of a walk leads into the next layer
    layer_along : (p : List ℕ) (u v r : ℕ) → Walk g u v p → member (layer g s r) u ≡ true → member (layer g s (r + length p)) v ≡ true
    unfolding layer iter
    layer_along [] u v r w h = simp (add-zero, ← w) h
    layer_along (i ∷ p) u v r w h =
        let e : suc r + length p ≡ r + suc (length p) = omega arith in
        rw e at (layer_along p (g.head i) v (suc r) w.3 (spread_adds (layer g s r) i w.0 w.1 (rw w.2 h)))

    -- a walk of at most k links ends in layer k
    layer_all : (k v : ℕ) (p : List ℕ) → Walk g s v p → length p ≤ k → member (layer g s k) v ≡ true
    unfolding layer iter
    layer_all k v p w h =
        let e : length p + (k - length p) ≡ k = omega arith in
        let z : 0 + length p ≡ length p = omega arith in
        rw e at (layer_more (length p) (k - length p) v (rw z at (layer_along p s v 0 w (member_inserted 0 s))))

-- ---- the distance
-- no path has fewer links
distance_least : (g : Net) (s t : ℕ) (p : List ℕ) → IsPath g s t p → distance g s t ≤ length p
unfolding distance
distance_least g s t p h =
    by_lt (length p) (distance g s t)
    (λ l.
    let absent : member (layer g s (length p)) t ≡ false = first_before (λ k. member (layer g s k) t) g.nodes (length p) l in
    absurd (false≢true (sym absent ∙ layer_all g s (length p) t p h.walk (le_refl _))))
    (λ l. l)

module _ (g : Net) (ends : Ends g) (few : g.nodes ≤ most_nodes) (s t : ℕ) (s_low : s < g.nodes) (apart : s ≡ t → ⊥) where
  pub distance_found : distance g s t < g.nodes → Distance g s t (distance g s t)
  unfolding distance
  distance_found low =
      let r = layer_reached g s (distance g s t) t (first_passes (λ k. member (layer g s k) t) g.nodes low) in
      let p : List ℕ = cut g s t r.0 in
      let path : IsPath g s t p = cut_path g ends few s t s_low r.0 r.1 apart in
      let less = (cut_walk g ends few s t s_low r.0 r.1).less (λ i. 1) in
      record {
        reached = (p, path, omega (arith, less, ones p, ones r.0, r.2, distance_least g s t p path));
        fewest = distance_least g s t;
      }

  pub distance_none : g.nodes ≤ distance g s t → NoPath g s t
  distance_none high p h = omega (arith, distance_least g s t p h, path_short g ends s t s_low p h)

-- ---- the layers one after another: the first that has t is found, or none has it
module _ (g : Net) (s t : ℕ) where
  abbrev has : ℕ → Bool
  has k = member (layer g s k) t

  pub distance_here : (k : ℕ) → ((j : ℕ) → j < k → has j ≡ false) → k < g.nodes → has k ≡ true → Some k ≡ distance_if_any g s t
  unfolding distance_if_any distance
  distance_here k none low here = rw (← first_here has g.nodes k none low here) (simp (lt-ltb _ _ low))

  pub distance_nowhere : ((j : ℕ) → j < g.nodes → has j ≡ false) → ◌≡◌ {A = Option ℕ} None (distance_if_any g s t)
  unfolding distance_if_any distance
  distance_nowhere none = rw (← first_nowhere has g.nodes none) (simp (le-ltb _ _ (le_refl g.nodes)))
