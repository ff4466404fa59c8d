-- Hold times: along every path that a request sees, its delays sum to the path's delay, the links' own delays and the hold
-- times of the inner nodes, of which none is an end; and where no node holds anything, the network that a request sees is
-- the one of the links' own delays.
-- Assumes nothing.
use Prim.Native.Nat.{ℕ, zero, suc, ◌+◌}
use mathlib.Core.Path.{◌≡◌, refl, sym, ◌∙◌}
use mathlib.Core.Bool.{Bool, true, false, cond}
use mathlib.Core.List.{List, [], ◌∷◌, map}
use native.Mathlib.Nat.{add-zero}
use native.Mathlib.Omega.{arith}
use lib.Dec.{eqb}
use lib.ListN.{get_or}
use borrow.Author.Tests.{eq-eqb, ne_eqb}
use Rattle.network.specs.Lists.{All, Distinct}
use Rattle.network.specs.Net.{Net, Walk, IsPath, sum}
use Rattle.network.specs.declared.Request.{Request}
use Rattle.area.specs.Station.{Table, tail_of, head_of, delay_of, cost_of, hold_of}
use Rattle.area.specs.Books.{Books, inner_nodes, path_delay, hold_into, delay_to, usable_for, net, net_unheld}

-- ---- where a path ends
-- a node that the links of a walk do not come to is not its end
not_end : (g : Net) (s t : ℕ) (i : ℕ) (p : List ℕ) → Walk g s t (i ∷ p) → (v : ℕ) → All (λ u. v ≡ u → ⊥) (map g.head (i ∷ p)) → v ≡ t → ⊥
not_end g s t i [] walk v other e = other.0 (e ∙ sym walk.3)
not_end g s t i (j ∷ p) walk v other e = not_end g (g.head i) t j p walk.3 v other.1 e

module _ (o : Books) (r : Request) where
  abbrev t : Table
  t = o.table

  abbrev seen : Net
  seen = net o r

  -- ---- a path's delay
  -- a message is not held where it arrives
  arrives : (v : ℕ) → v ≡ r.target → hold_into t r.target v ≡ 0
  arrives v e = rw (eq-eqb v r.target e) refl

  passes : (v : ℕ) → (v ≡ r.target → ⊥) → hold_into t r.target v ≡ hold_of t v
  passes v e = rw (ne_eqb v r.target e) refl

  delays_sum : (s i : ℕ) (p : List ℕ) → Walk seen s r.target (i ∷ p) → Distinct (map seen.head (i ∷ p))
      → sum seen.delay (i ∷ p) ≡ path_delay t (i ∷ p)
  unfolding net delay_to
  delays_sum s i [] walk once = omega (arith, arrives (head_of t i) walk.3)
  delays_sum s i (j ∷ p) walk once =
      omega (
        arith,
        passes (head_of t i) (not_end seen (head_of t i) r.target j p walk.3 (head_of t i) once.0),
        delays_sum (head_of t i) j p walk.3 once.1,
      )

  pub delay_of_path : (s : ℕ) (p : List ℕ) → IsPath seen s r.target p → sum seen.delay p ≡ path_delay t p
  delay_of_path s [] path = absurd path.some
  delay_of_path s (i ∷ p) path = delays_sum s i p path.walk path.distinct.1

  -- ---- its inner nodes
  inner_apart : (s i : ℕ) (p : List ℕ) → Walk seen s r.target (i ∷ p) → Distinct (map seen.head (i ∷ p)) → (u : ℕ)
      → All (λ v. u ≡ v → ⊥) (map seen.head (i ∷ p))
      → All (λ v. (v ≡ u → ⊥) × (v ≡ r.target → ⊥)) (inner_nodes t (i ∷ p))
  unfolding net
  inner_apart s i [] walk once u other = tt
  inner_apart s i (j ∷ p) walk once u other = (
    (λ e. other.0 (sym e), not_end seen (head_of t i) r.target j p walk.3 (head_of t i) once.0),
    inner_apart (head_of t i) j p walk.3 once.1 u other.1,
  )

  -- none of them is an end of the path, so what its ends hold makes no difference
  pub inner_no_end : (s : ℕ) (p : List ℕ) → IsPath seen s r.target p → All (λ v. (v ≡ s → ⊥) × (v ≡ r.target → ⊥)) (inner_nodes t p)
  inner_no_end s [] path = absurd path.some
  inner_no_end s (i ∷ p) path = inner_apart s i p path.walk path.distinct.1 s path.distinct.0

  -- ---- where no node holds anything
  nothing : (l : List ℕ) → All (λ h. h ≡ 0) l → (v : ℕ) → get_or l v 0 ≡ 0
  nothing [] none v = refl
  nothing (h ∷ l) none zero = none.0
  nothing (h ∷ l) none (suc v) = nothing l none.1 v

  pub net_same : All (λ h. h ≡ 0) t.hold_times → net o r ≡ net_unheld o r
  unfolding net net_unheld delay_to
  net_same none = λ k.
      record {
        nodes = t.nodes;
        links = t.links;
        tail = tail_of t;
        head = head_of t;
        usable = usable_for o r;
        delay = λ i. own i k;
        cost = cost_of t;
      }
    where
      either : (b : Bool) → cond {A = ℕ} b 0 0 ≡ 0
      either true = refl
      either false = refl

      held : (v : ℕ) → hold_into t r.target v ≡ 0
      held v = rw (nothing t.hold_times none v) (either (eqb v r.target))

      own : (i : ℕ) → delay_of t i + hold_into t r.target (head_of t i) ≡ delay_of t i
      own i = rw (held (head_of t i)) (add-zero (delay_of t i))
