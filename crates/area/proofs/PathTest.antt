-- The node-set test of a path says what `PathOf` says: a link passes where its head is not yet in the set, and the set
-- holds just the nodes that were passed, so no node is passed twice.
-- Assumes nothing.
use mathlib.Core.Path.{◌≡◌, refl, sym, ◌∙◌, subst}
use mathlib.Core.Bool.{true, false, not, ◌&&◌, false≢true}
use mathlib.Core.List.{List, [], ◌∷◌, map}
use Prim.Native.Nat.{ℕ, zero, suc, ◌≤◌, ◌<◌}
use native.Mathlib.Omega.{arith}
use lib.Dec.{ltb, eqb}
use lib.ListN.{length, get_or}
use borrow.Author.Tests.{ltb-true, eqb-true, lt-ltb, eq-eqb, not-true}
use Rattle.network.specs.Lists.{All, memb, Distinct}
use Rattle.network.specs.NodeSet.{member, inserted}
use Rattle.network.specs.Net.{Walk}
use Rattle.network.proofs.Paths.{walk_links}
use Rattle.network.proofs.NodeSet.{member_empty, member_inserted, member_others}
use Rattle.network.proofs.Tests.{fst_of, snd_of}
use Rattle.area.specs.Station.{Table, tail_of, head_of}
use Rattle.area.specs.Books.{whole}
use Rattle.area.specs.Formed.{PathOf, goes_on, onward, path_fits}
use Rattle.area.proofs.Each.{all_then, all_both, distinct_map}

-- ---- a node set with one node more
-- a node that is not in the greater set is another one, and not in the smaller set
other_node : (set v w : ℕ) → member (inserted set v) w ≡ false → v ≡ w → ⊥
other_node set v w out e = false≢true (sym out ∙ subst (λ (u : ℕ). member (inserted set v) u ≡ true) e (member_inserted set v))

out_before : (set v w : ℕ) → member (inserted set v) w ≡ false → member set w ≡ false
out_before set v w out = sym (member_others set v w (other_node set v w out)) ∙ out

out_after : (set v w : ℕ) → member set w ≡ false → (v ≡ w → ⊥) → member (inserted set v) w ≡ false
out_after set v w out ne = member_others set v w ne ∙ out

module _ (t : Table) where
  abbrev heads : List ℕ → List ℕ
  heads p = map (head_of t) p

  -- ---- from the test to the statement
  -- the links go on from v, to nodes out of the set that differ
  record Onward (v set : ℕ) (p : List ℕ) : Type 0 where
    end : ℕ
    walk : Walk (whole t) v end p
    out : All (λ w. member set w ≡ false) (heads p)
    differ : Distinct (heads p)

  -- one link more in front
  onward_more : (v set i : ℕ) (p : List ℕ) → goes_on t.links t.words v set i ≡ true
      → Onward (head_of t i) (inserted set (head_of t i)) p
      → Onward v set (i ∷ p)
  unfolding goes_on whole
  onward_more v set i p here on =
      record {
        end = on.end;
        walk = (ltb-true i t.links (fst_of (ltb i t.links) _ here), refl, eqb-true (tail_of t i) v (fst_of (eqb (tail_of t i) v) _ next), on.walk);
        out = (not-true (member set (head_of t i)) (snd_of (eqb (tail_of t i) v) _ next), all_then (out_before set (head_of t i)) (heads p) on.out);
        differ = (all_then (other_node set (head_of t i)) (heads p) on.out, on.differ);
      }
    where
      next : (eqb (tail_of t i) v && not (member set (head_of t i))) ≡ true
      next = snd_of (ltb i t.links) _ here

  onward_says : (v set : ℕ) (p : List ℕ) → onward t.links t.words v set p ≡ true → Onward v set p
  unfolding onward
  onward_says v set [] e = record { end = v; walk = refl; out = tt; differ = tt }
  onward_says v set (i ∷ p) e =
      onward_more v set i p (fst_of (goes_on t.links t.words v set i) _ e)
      (onward_says (head_of t i) (inserted set (head_of t i)) p (snd_of (goes_on t.links t.words v set i) _ e))

  -- a list of links that passes the test is a path
  pub path_says : (p : List ℕ) → path_fits t.links t.words p ≡ true → PathOf t p
  unfolding path_fits whole
  path_says [] e = absurd (false≢true e)
  path_says (i ∷ p) e =
      let on = onward_says (tail_of t i) (inserted 0 (tail_of t i)) (i ∷ p) e in (
        tail_of t i,
        on.end,
        record { some = tt; walk = on.walk; distinct = (all_then (other_node 0 (tail_of t i)) (heads (i ∷ p)) on.out, on.differ) },
      )

  -- ---- from the statement to the test
  -- a walk to nodes out of the set that differ passes the test
  onward_test : (v e set : ℕ) (p : List ℕ) → Walk (whole t) v e p → All (λ w. member set w ≡ false) (heads p) → Distinct (heads p)
      → onward t.links t.words v set p ≡ true
  unfolding onward goes_on whole
  onward_test v e set [] walk out differ = refl
  onward_test v e set (i ∷ p) walk out differ =
      rw (lt-ltb i t.links walk.0, eq-eqb (tail_of t i) v walk.2, out.0)
      (onward_test (head_of t i) e (inserted set (head_of t i)) p walk.3 (all_both (out_after set (head_of t i)) (heads p) out.1 differ.0) differ.1)

  -- a path passes the test
  pub path_test : (p : List ℕ) → PathOf t p → path_fits t.links t.words p ≡ true
  unfolding path_fits whole
  path_test [] (s, e, path) = absurd path.some
  path_test (i ∷ p) (s, e, path) =
      subst (λ (v : ℕ). onward t.links t.words v (inserted 0 v) (i ∷ p) ≡ true) (sym path.walk.2)
      (onward_test s e (inserted 0 s) (i ∷ p) path.walk
      (all_then (λ w. out_after 0 s w (member_empty w)) (heads (i ∷ p)) path.distinct.0) path.distinct.1)

  -- ---- the links of a path
  -- a link twice would enter its head twice
  pub path_links_differ : (p : List ℕ) → PathOf t p → Distinct p
  unfolding whole
  path_links_differ p (s, e, path) = distinct_map (head_of t) p path.distinct.1

  -- every link of a path is one of the table
  walk_low : (s e : ℕ) (p : List ℕ) → Walk (whole t) s e p → (k : ℕ) → k < length p → get_or p k 0 < t.links
  unfolding whole
  walk_low s e [] walk k low = absurd (omega arith)
  walk_low s e (i ∷ p) walk zero low = walk.0
  walk_low s e (i ∷ p) walk (suc k) low = walk_low (head_of t i) e p walk.3 k (omega arith)

  walk_below : (n : ℕ) → t.links ≤ n → (s e : ℕ) (p : List ℕ) → Walk (whole t) s e p → All (λ (i : ℕ). i < n) p
  unfolding whole
  walk_below n few s e [] walk = tt
  walk_below n few s e (i ∷ p) walk = (omega (arith, walk.0, few), walk_below n few (head_of t i) e p walk.3)

  pub path_links_below : (n : ℕ) → t.links ≤ n → (p : List ℕ) → PathOf t p → All (λ (i : ℕ). i < n) p
  path_links_below n few p (s, e, path) = walk_below n few s e p path.walk

  pub path_links_low : (p : List ℕ) → PathOf t p → (k : ℕ) → k < length p → get_or p k 0 < t.links
  path_links_low p (s, e, path) = walk_low s e p path.walk

  pub path_member_low : (p : List ℕ) → PathOf t p → (i : ℕ) → memb i p ≡ true → i < t.links
  unfolding whole
  path_member_low p (s, e, path) i h = (walk_links (whole t) s e p path.walk i h).0
