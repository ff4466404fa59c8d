-- After the rounds the table is at or below the kept weight of each walk: each round tries every link at every column,
-- so it carries a walk on by one link at least, and no relaxation raises a number.
-- Assumes nothing.
use mathlib.Core.Path.{◌≡◌}
use mathlib.Core.Bool.{true}
use mathlib.Core.List.{List, [], ◌∷◌}
use Prim.Native.Nat.{ℕ, zero, suc, ◌+◌, ◌*◌, ◌-◌, ◌≤◌, ◌<◌}
use native.Mathlib.Nat.{le_refl, le_trans, add-zero}
use native.Mathlib.Omega.{arith}
use lib.ListN.{length}
use Rattle.network.specs.Loops.{iter}
use Rattle.network.specs.Net.{Net, Ends, Walk, sum}
use Rattle.network.specs.Problem.{Problem}
use Rattle.network.proofs.Loops.{iter_keeps, iter_brings, iter_first}
use Rattle.search.specs.ebf.Table.{cell, number, initialised, offered, column, round, round_count, rounds, ebf}
use Rattle.search.proofs.ebf.Good.{Room, Good}
use Rattle.search.proofs.ebf.Cells.{cell_inside}
use Rattle.search.proofs.ebf.Relaxed.{tail_cell, head_cell, offer, offered_lower, offered_done}
use Rattle.search.proofs.ebf.Sound.{offered_good, column_good, round_good, initialised_good}

-- where each turn only lowers a number, so do they all
pub iter_lower : (f : ℕ → List ℕ → List ℕ) (c : ℕ) → ((i : ℕ) (l : List ℕ) → number (f i l) c ≤ number l c)
    → (n : ℕ) (l : List ℕ) → number (iter f n l) c ≤ number l c
iter_lower f c lower n l = iter_keeps f (λ (r : List ℕ). number r c ≤ number l c) n l (λ i r _ h. le_trans (lower i r) h) (le_refl _)

module _ (g : Net) (q : Problem) where
  pub column_lower : (c k : ℕ) (l : List ℕ) → number (column g q k l) c ≤ number l c
  unfolding column
  column_lower c k = iter_lower (offered g q k) c (λ i l. offered_lower g q k i l c) g.links

  pub round_lower : (c : ℕ) (l : List ℕ) → number (round g q l) c ≤ number l c
  unfolding round
  round_lower c = iter_lower (column g q) c (column_lower c) (q.x + 1)

  module _ (ends : Ends g) (s : ℕ) where
    -- ---- a round tries link i at column k
    module _ (k i : ℕ) (listed : i < g.links) (u : g.usable i ≡ true) (small : k + q.scaled_by i ≤ q.x) where
      -- a good table that offers the head of the link d at most, and one whose head has d at most
      abbrev Offers : ℕ → List ℕ → Type 0
      Offers d l = Good g q s l × (offer g q k i l ≤ d)

      abbrev Reached : ℕ → List ℕ → Type 0
      Reached d l = number l (head_cell g q k i) ≤ d

      column_done : (d : ℕ) (l : List ℕ) → Offers d l → Reached d (column g q k l)
      unfolding column
      column_done d =
          iter_brings (offered g q k) (Offers d) (Reached d) i g.links listed
          (λ j l low h. (offered_good g q ends s k j l low h.0, omega (arith, offered_lower g q k j l (tail_cell g q k i), h.1)))
          (λ l h.
          let low : g.head i < g.nodes = ends.heads i listed in
          let has : 2 * head_cell g q k i + 1 < length l =
          omega (arith, cell_inside g.nodes q.x (g.head i) (k + q.scaled_by i) low small, h.0.room) in
          le_trans (offered_done g q k i l u small has (h.0.below (g.head i) (k + q.scaled_by i) low small)) h.1)
          (λ j l h. le_trans (offered_lower g q k j l (head_cell g q k i)) h)

      pub round_done : (l : List ℕ) → Good g q s l → number (round g q l) (head_cell g q k i) ≤ offer g q k i l
      unfolding round
      round_done l good =
          let d : ℕ = offer g q k i l in
          iter_brings (column g q) (Offers d) (Reached d) k (q.x + 1) (omega arith)
          (λ j r low h. (column_good g q ends s j r h.0, omega (arith, column_lower (tail_cell g q k i) j r, h.1)))
          (column_done d) (λ j r h. le_trans (column_lower (head_cell g q k i) j r) h) l (good, le_refl _)

    -- ---- n rounds are enough for a walk of at most n links
    along : (n : ℕ) (p : List ℕ) (v t k : ℕ) (l : List ℕ) → Good g q s l → Walk g v t p → k + sum q.scaled_by p ≤ q.x → length p ≤ n
        → number (iter (λ _. round g q) n l) (cell q.x t (k + sum q.scaled_by p)) ≤ number l (cell q.x v k) + sum q.kept p
    along n [] v t k l good w small short = simp (add-zero, ← w) (iter_lower (λ _. round g q) (cell q.x v k) (λ _. round_lower (cell q.x v k)) n l)
    along zero (i ∷ p) v t k l good w small short = absurd (omega arith)
    along (suc n) (i ∷ p) v t k l good w small short =
        let col : (k + q.scaled_by i) + sum q.scaled_by p ≡ k + (q.scaled_by i + sum q.scaled_by p) = omega arith in
        let first : number (round g q l) (head_cell g q k i) ≤ number l (cell q.x v k) + q.kept i =
        rw w.2 at (round_done k i w.0 w.1 (omega arith) l good) in
        let rest = rw col at (along n p (g.head i) t (k + q.scaled_by i) (round g q l) (round_good g q ends s l good) w.3 (omega arith) (omega arith)) in
        rw (iter_first (round g q) n l) (omega (arith, first, rest))

-- each walk that the problem allows is at or above what the table says
pub ebf_complete : (g : Net) (q : Problem) → Ends g → (s : ℕ) → s < g.nodes → (l : List ℕ) → Room g q l
    → (t : ℕ) (p : List ℕ) → Walk g s t p → sum q.scaled_by p ≤ q.x → length p ≤ g.nodes - 1
    → number (ebf g q s l) (cell q.x t q.x) ≤ sum q.kept p
unfolding ebf rounds
ebf_complete g q ends s s_low l room t p w small short =
    let good : Good g q s (initialised g q s l) = initialised_good g q s l room s_low in
    let spare : ℕ = q.x - sum q.scaled_by p in
    let all : spare + sum q.scaled_by p ≡ q.x = omega arith in
    omega (
      arith,
      rw all at (along g q ends s (round_count g) p s t spare (initialised g q s l) good w (omega arith) (omega (arith, short))),
      good.source spare (omega arith),
    )
