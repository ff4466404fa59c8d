-- The pass along the noted links gives the links that follow them from s to t, and their own sums.
-- Assumes nothing.
use mathlib.Core.Path.{◌≡◌, refl, subst, ◌∙◌}
use mathlib.Core.Bool.{Bool, true, ◌||◌}
use mathlib.Core.List.{List, [], ◌∷◌, ◌++◌}
use Prim.Native.Nat.{ℕ, zero, suc, ◌+◌, ◌-◌, ◌≤◌}
use native.Mathlib.Nat.{zero-add}
use native.Mathlib.Numerals.{add-one}
use native.Mathlib.Omega.{arith}
use lib.Dec.{eqb, leb}
use lib.ListN.{length, get_or, set, drop}
use lib.Seq.{sets, sets-eq}
use Rattle.network.specs.Loops.{iter}
use Rattle.network.specs.Net.{Net, sum}
use Rattle.network.specs.Cut.{follow}
use Rattle.network.proofs.Loops.{iter_none, iter_done, iter_stays, iter_first}
use Rattle.network.proofs.Tests.{by_bool, by_test}
use Rattle.search.specs.declared.PartialPath.{PartialPath}
use Rattle.search.specs.Forward.{advanced, path_on, path_start, forwarded}

-- ---- the whole pass
module _ (g : Net) (next : List ℕ) (t : ℕ) where
  -- the test of `follow` and `advanced`
  abbrev ends : ℕ → Bool
  ends v = eqb v t || leb g.links (get_or next v 0)

  pub follow_short : (f v : ℕ) → length (follow g next t f v) ≤ f
  unfolding follow
  follow_short zero v = omega arith
  follow_short (suc f) v =
      let i : ℕ = get_or next v 0 in
      by_test (ends v) [] (i ∷ follow g next t f (g.head i)) (λ (p : List ℕ). length p ≤ suc f) (λ e. omega arith)
      (λ e. omega (arith, follow_short f (g.head i)))

  -- r is what the links p make of the partial path w and the words l
  record Passed (w : PartialPath) (l p : List ℕ) (r : PartialPath × List ℕ) : Type 0 where
    pub links : r.0.links ≡ w.links + length p
    pub delay : r.0.delay ≡ w.delay + sum g.delay p
    pub cost : r.0.cost ≡ w.cost + sum g.cost p
    pub words : r.1 ≡ sets l w.links p

  -- where the pass stays, all further turns leave the partial path and the words
  passed_none : (f : ℕ) (w : PartialPath) (l : List ℕ) → ends w.node ≡ true → Passed w l [] (iter (λ _. advanced g next t) f (w, l))
  unfolding advanced
  passed_none f w l e =
      subst (Passed w l [])
      (iter_done (λ _. advanced g next t) (f + 0) f (w, l) (iter_stays (λ _. advanced g next t) 0 f (w, l) (w, l) (iter_none _ _) (λ _. simp e))
      (omega arith))
      (record { links = omega arith; delay = omega arith; cost = omega arith; words = refl })

  -- link i in front
  passed_more : (i : ℕ) (w : PartialPath) (l p : List ℕ) (r : PartialPath × List ℕ) → Passed (path_on g i w) (set l w.links i) p r → Passed w l (i ∷ p) r
  unfolding path_on
  passed_more i w l p r h =
      record { links = omega arith; delay = omega arith; cost = omega arith; words = rw add-one at h.words }

  passed : (f : ℕ) (w : PartialPath) (l : List ℕ) → Passed w l (follow g next t f w.node) (iter (λ _. advanced g next t) f (w, l))
  unfolding follow advanced path_on
  passed zero w l =
      subst (Passed w l []) (iter_none _ (w, l)) (record { links = omega arith; delay = omega arith; cost = omega arith; words = refl })
  passed (suc f) w l =
      let i : ℕ = get_or next w.node 0 in
      by_bool (ends w.node) (λ e. rw (iter_first (advanced g next t) f (w, l), e) (passed_none f w l e))
      (λ e. rw (iter_first (advanced g next t) f (w, l), e) (passed_more i w l _ _ (passed f (path_on g i w) (set l w.links i))))

module _ (g : Net) (next : List ℕ) (s t : ℕ) (path : List ℕ) where
  -- the links that the notes give
  abbrev followed : List ℕ
  followed = follow g next t (g.nodes - 1) s

  all_passed : Passed g next t (path_start s) path followed (forwarded g next s t path)
  unfolding forwarded
  all_passed = passed g next t (g.nodes - 1) (path_start s) path

  pub forward_links : (forwarded g next s t path).0.links ≡ length followed
  forward_links = omega (arith, all_passed.links)

  pub forward_delay : (forwarded g next s t path).0.delay ≡ sum g.delay followed
  forward_delay = omega (arith, all_passed.delay)

  pub forward_cost : (forwarded g next s t path).0.cost ≡ sum g.cost followed
  forward_cost = omega (arith, all_passed.cost)

  pub forward_path : length followed ≤ length path → (forwarded g next s t path).1 ≡ followed ++ drop (length followed) path
  forward_path low = all_passed.words ∙ rw zero-add at (sets-eq followed path 0 (omega arith))
