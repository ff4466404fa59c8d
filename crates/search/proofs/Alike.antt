-- What every search has in common depends on the network only through what `Alike` names: distance, the two problems, and
-- the path by the notes, which ends at a word that is no link.
-- Assumes nothing.
use mathlib.Core.Path.{◌≡◌, refl, ap, ◌∙◌}
use mathlib.Core.Bool.{or-true}
use mathlib.Core.List.{List, [], ◌∷◌}
use Prim.Native.Nat.{ℕ, zero, suc, ◌<◌}
use lib.ListN.{get_or}
use borrow.Author.Tests.{le-leb}
use Rattle.network.specs.declared.Request.{Request}
use Rattle.network.specs.Loops.{iter, first}
use Rattle.network.specs.Net.{Net, Walk, sum}
use Rattle.network.specs.NodeSet.{member, inserted}
use Rattle.network.specs.Scale.{scaled}
use Rattle.network.specs.Cut.{follow}
use Rattle.network.specs.Reduce.{delay_bound, cost_bound, problem_one, problem_two}
use Rattle.network.proofs.Tests.{by_lt}
use Rattle.network.proofs.Loops.{iter_done, iter_same, first_same}
use Rattle.search.specs.Result.{Alike}
use Rattle.search.specs.Solver.{SameEdges, SameWeights}
use Rattle.search.specs.Distance.{spread_link, spread, layer, distance}

-- two loops of equally many turns that agree
pub loop_depends : {A : Type 0} (f h : ℕ → A → A) (n m : ℕ) → n ≡ m → ((i : ℕ) (a : A) → i < n → f i a ≡ h i a) → (a : A)
    → iter f n a ≡ iter h m a
loop_depends f h n m e same a = iter_done h n m a (iter_same f h n same a) e

-- networks that are alike have the same edges
pub alike_edges : (g o : Net) → Alike g o → SameEdges g o
alike_edges g o same =
    record { nodes = same.nodes; links = same.links; tail = same.tail; head = same.head; usable = same.usable }

module _ (g o : Net) (same : SameEdges g o) where
  -- ---- the distance
  spread_depends : (set : ℕ) → spread g set ≡ spread o set
  unfolding spread
  spread_depends set =
      loop_depends (spread_link g set) (spread_link o set) g.links o.links same.links
      (λ i m low. rw (same.head i low, same.tail i low, same.usable i low)) set

  layer_depends : (s k : ℕ) → layer g s k ≡ layer o s k
  unfolding layer
  layer_depends s k = iter_same (λ _. spread g) (λ _. spread o) k (λ _ set _. spread_depends set) (inserted 0 s)

  pub distance_depends : (s t : ℕ) → distance g s t ≡ distance o s t
  unfolding distance
  distance_depends s t =
      first_same (λ k. member (layer g s k) t) (λ k. member (layer o s k) t) g.nodes (λ k _. rw layer_depends)
      ∙ ap (first (λ k. member (layer o s k) t)) same.nodes

  -- ---- the path by the notes: it ends at a word that is no link
  pub follow_depends : (next : List ℕ) (t f v : ℕ) → follow g next t f v ≡ follow o next t f v
  unfolding follow
  follow_depends next t zero v = refl
  follow_depends next t (suc f) v =
      let i : ℕ = get_or next v 0 in
      by_lt i g.links
      (λ low. cc (same.head i low, follow_depends next t f (g.head i)))
      (λ high. simp (le-leb g.links i high, le-leb o.links i (rw same.links at high), or-true))

-- ---- the sums of a walk's links, which are links of both
pub sums_depend : (g o : Net) → Alike g o → (s t : ℕ) (p : List ℕ) → Walk g s t p → (sum g.delay p ≡ sum o.delay p) × (sum g.cost p ≡ sum o.cost p)
sums_depend g o same s t [] walk = (refl, refl)
sums_depend g o same s t (i ∷ p) walk =
    let rest = sums_depend g o same (g.head i) t p walk.3 in
    (rw (same.delay i walk.0, rest.0) refl, rw (same.cost i walk.0, rest.1) refl)

-- ---- the two problems
module _ (g o : Net) (same : Alike g o) (r : Request) (x : ℕ) where
  pub one_depends : SameWeights g.links (problem_one g r x) (problem_one o r x)
  unfolding problem_one
  one_depends =
      record { x = refl; bound = refl; kept = same.delay; scaled_by = λ i low. ap (scaled x (cost_bound r)) (same.cost i low) }

  pub two_depends : SameWeights g.links (problem_two g r x) (problem_two o r x)
  unfolding problem_two
  two_depends =
      record { x = refl; bound = refl; kept = same.cost; scaled_by = λ i low. ap (scaled x (delay_bound r)) (same.delay i low) }
