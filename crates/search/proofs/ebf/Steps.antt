-- The cases of one relaxation as equations with the model, and what the rounds keep.
-- Assumes nothing.
use mathlib.Core.Path.{◌≡◌, ◌∙◌}
use mathlib.Core.Bool.{true, false}
use mathlib.Core.List.{List}
use Prim.Native.Nat.{ℕ, ◌+◌, ◌-◌, ◌≤◌, ◌<◌}
use native.Mathlib.Nat.{le_trans}
use native.Mathlib.Omega.{arith}
use lib.ListN.{length}
use borrow.Author.Tests.{le-leb, lt-leb, le-ltb, lt-ltb}
use Rattle.network.specs.Limits.{work_words}
use Rattle.network.specs.Loops.{iter}
use Rattle.network.specs.Net.{Net}
use Rattle.network.specs.Problem.{Problem}
use Rattle.network.proofs.Loops.{iter_done, iter_settled}
use Rattle.network.proofs.Tests.{by_lt}
use Rattle.search.specs.ebf.Table.{cell, cells, number, put, improved, relaxed, offered, column, round, rounds}
use Rattle.search.proofs.ebf.Cells.{cell_inside}
use Rattle.search.proofs.ebf.Relaxed.{offered_lower}
use Rattle.search.proofs.ebf.Complete.{iter_lower, column_lower, round_lower}
use Rattle.search.specs.ebf.Settled.{Settled}
use Rattle.search.proofs.ebf.Settled.{settled_more}
use Rattle.search.specs.declared.reduced.Reduced.{Reduced}
use Rattle.search.specs.Solver.{hop, net_in, problem_of}
use Rattle.search.specs.ebf.OnTable.{Bounded}
use Rattle.search.proofs.ebf.Rows.{cells_below}

-- lines 8 to 10, on numbers within the bound or ∞
module _ (a b w bound i : ℕ) (l : List ℕ) (low : number l b ≤ bound + 1) where
  pub improved_stored : number l a + w < number l b → put l b (number l a + w) i ≡ improved a b w bound i l
  unfolding improved
  improved_stored less =
      let near : number l a ≤ bound = omega arith in
      simp (le-leb _ _ near, lt-ltb _ _ less)

  pub improved_kept : number l b ≤ number l a + w → l ≡ improved a b w bound i l
  unfolding improved
  improved_kept more =
      by_lt bound (number l a) (λ far. simp (lt-leb _ _ far)) (λ near. simp (le-leb _ _ near, le-ltb _ _ more))

-- no relaxation raises a number, so the numbers stay within the bound or ∞ through links, columns and rounds
stays_bounded : (p : Reduced) (f : ℕ → List ℕ → List ℕ) → ((c i : ℕ) (l : List ℕ) → number (f i l) c ≤ number l c)
    → (n : ℕ) (l l' : List ℕ) → l' ≡ iter f n l → Bounded p l → Bounded p l'
stays_bounded p f lower n l l' e bounded v k v_low k_low =
    rw e (le_trans (iter_lower f (cell p.x v k) (lower (cell p.x v k)) n l) (bounded v k v_low k_low))

module _ (p : Reduced) (g : Net) (q : Problem) where
  pub links_bounded : (k n : ℕ) (l l' : List ℕ) → l' ≡ iter (offered g q k) n l → Bounded p l → Bounded p l'
  links_bounded k = stays_bounded p (offered g q k) (λ c i l. offered_lower g q k i l c)

  pub columns_bounded : (n : ℕ) (l l' : List ℕ) → l' ≡ iter (column g q) n l → Bounded p l → Bounded p l'
  columns_bounded = stays_bounded p (column g q) (column_lower g q)

  pub rounds_bounded : (n : ℕ) (l l' : List ℕ) → l' ≡ iter (λ _. round g q) n l → Bounded p l → Bounded p l'
  rounds_bounded = stays_bounded p (λ _. round g q) (λ c _. round_lower g q c)

-- lines 6 and 7, and line 23's choice of usable links
module _ (g : Net) (q : Problem) (k i : ℕ) (l : List ℕ) where
  pub relaxed_over : q.x < k + q.scaled_by i → l ≡ relaxed g q k i l
  unfolding relaxed
  relaxed_over over = simp (lt-leb _ _ over)

  pub relaxed_within : k + q.scaled_by i ≤ q.x
      → improved (cell q.x (g.tail i) k) (cell q.x (g.head i) (k + q.scaled_by i)) (q.kept i) q.bound i l ≡ relaxed g q k i l
  unfolding relaxed
  relaxed_within within = simp (le-leb _ _ within)

  pub offered_unusable : g.usable i ≡ false → l ≡ offered g q k i l
  unfolding offered
  offered_unusable u = simp u

  pub offered_usable : g.usable i ≡ true → relaxed g q k i l ≡ offered g q k i l
  unfolding offered
  offered_usable u = simp u

-- the same, of a link as it is listed
module _ (p : Reduced) (k i : ℕ) (l : List ℕ) (low : k ≤ p.x) where
  pub hop_over : p.x - k < (hop p i).step → l ≡ relaxed (net_in p) (problem_of p) k i l
  unfolding problem_of
  hop_over over = relaxed_over (net_in p) (problem_of p) k i l (omega arith)

  pub hop_within : (hop p i).step ≤ p.x - k
      → {a b : ℕ} → a ≡ cell p.x (hop p i).tail k → b ≡ cell p.x (hop p i).head (k + (hop p i).step)
      → {l' : List ℕ} → l' ≡ improved a b (hop p i).kept p.bound i l
      → l' ≡ relaxed (net_in p) (problem_of p) k i l
  unfolding net_in problem_of
  hop_within within {a} {b} ea eb {l'} e =
      e ∙ simp (ea, eb) (relaxed_within (net_in p) (problem_of p) k i l (omega arith))

-- line 23's choice of the same
module _ (p : Reduced) (k i : ℕ) (l : List ℕ) where
  pub hop_unusable : (hop p i).usable ≡ false → l ≡ offered (net_in p) (problem_of p) k i l
  unfolding net_in
  hop_unusable u = offered_unusable (net_in p) (problem_of p) k i l u

  pub hop_usable : (hop p i).usable ≡ true → relaxed (net_in p) (problem_of p) k i l ≡ offered (net_in p) (problem_of p) k i l
  unfolding net_in
  hop_usable u = offered_usable (net_in p) (problem_of p) k i l u

-- one more link of column k was tried, and the links tried before it stay settled
pub settled_on : (p : Reduced) (k i : ℕ) → i < length p.hops.now
    → (l l' : List ℕ) → work_words ≤ length l
    → l' ≡ offered (net_in p) (problem_of p) k i l
    → ((hop p i).step ≡ 0 → l ≡ l')
    → ((j : ℕ) → j < i → Settled (net_in p) (problem_of p) k j l)
    → (j : ℕ) → j < i + 1 → Settled (net_in p) (problem_of p) k j l'
unfolding net_in problem_of cells
settled_on p k i low l l' room turn own before =
    settled_more (net_in p) (problem_of p) k i l l' turn own
    (λ small.
    omega (
      arith,
      cell_inside p.nodes p.x (hop p i).head (k + (hop p i).step) (p.fits.head i low) small,
      cells_below p.nodes p.x p.fits.nodes_most p.fits.x_most,
    ))
    before

-- b is what n rounds make of a
pub record Turned (p : Reduced) (n : ℕ) (a b : List ℕ) : Type 0 where
  pub is : b ≡ iter (λ _. round (net_in p) (problem_of p)) n a

module _ (p : Reduced) (n : ℕ) (a b : List ℕ) (so : Turned p n a b) where
  pub turned_bounded : Bounded p a → Bounded p b
  turned_bounded = rounds_bounded p (net_in p) (problem_of p) n a b so.is

  -- rounds that end with one that another would not change
  pub turned_settled : (d : List ℕ) → n < p.nodes - 1 → d ≡ round (net_in p) (problem_of p) b → round (net_in p) (problem_of p) d ≡ d
      → d ≡ rounds (net_in p) (problem_of p) a
  unfolding rounds net_in
  turned_settled d low turn same = iter_settled (round (net_in p) (problem_of p)) n (p.nodes - 1) a so.is low turn same

  -- all of them
  pub turned_all : n ≡ p.nodes - 1 → b ≡ rounds (net_in p) (problem_of p) a
  unfolding rounds net_in
  turned_all all = iter_done (λ _. round (net_in p) (problem_of p)) n (p.nodes - 1) a so.is all
