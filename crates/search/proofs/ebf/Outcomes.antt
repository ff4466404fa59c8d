-- One problem's answer from what its parts leave: the table is the model's whatever memory held before, and the pass
-- gives the followed links with their own sums.
-- Assumes nothing.
use mathlib.Core.Path.{◌≡◌, sym, ap, ◌∙◌}
use mathlib.Core.Bool.{Bool}
use mathlib.Core.List.{List}
use mathlib.Core.Option.{none, some}
use Prim.Native.Nat.{ℕ, ◌-◌, ◌≤◌, ◌<◌}
use native.Mathlib.Omega.{arith}
use lib.ListN.{length}
use borrow.Author.Tests.{le-leb, lt-leb}
use Rattle.network.specs.Limits.{path_words, work_words}
use Rattle.network.specs.Net.{Net, Ends}
use Rattle.network.specs.Words.{net_of, LinkTable}
use Rattle.network.specs.Cut.{follow}
use Rattle.search.specs.ebf.Table.{cell, cells, number, initialised, ebf}
use Rattle.search.specs.ebf.Trace.{traced}
use Rattle.search.specs.ebf.Solve.{path_in, answer_in, solve_in, solve}
use Rattle.search.specs.Heuristic.{outcome_of}
use Rattle.search.proofs.ebf.Good.{Room}
use Rattle.search.proofs.ebf.Sound.{initialised_good}
use Rattle.search.proofs.ebf.Memory.{any_memory_solves}
use Rattle.search.proofs.ebf.AsPaper.{ebf_as_paper}
use Rattle.std.specs.Prelude.{Ok, Err}
use Rattle.search.specs.declared.PartialPath.{PartialPath}
use Rattle.search.specs.declared.reduced.Reduced.{Reduced}
use Rattle.network.specs.declared.Grant.{Grant}
use Rattle.network.specs.declared.answer.NoRoute.TheVariants.{NoSolution}
use Rattle.network.specs.declared.answer.Reduction.{Reduction}
use Rattle.network.specs.Reduce.{Outcome}
use Rattle.search.specs.Solver.{SameEdges, net_in, problem_of}
use Rattle.search.specs.ebf.OnTable.{Bounded}
use Rattle.search.specs.ebf.AsPaper.{LeftByPaper}
use Rattle.search.specs.Forward.{forwarded, grant_of}
use Rattle.search.specs.Result.{search_answer_of, path_after}
use Rattle.search.specs.ebf.Passed.{passed}
use Rattle.search.proofs.ebf.Rows.{cells_below}
use Rattle.search.proofs.Alike.{follow_depends}
use Rattle.search.proofs.Forward.{follow_short, forward_links, forward_delay, forward_cost, forward_path}

-- the ends that the table's words give are nodes
pub net_ends : (n m : ℕ) (links : List ℕ) (usable : List Bool) (delays costs : List ℕ) → LinkTable n m links delays costs
    → Ends (net_of n m links usable delays costs)
unfolding net_of
net_ends n m links usable delays costs h = record { tails = h.from; heads = h.to }

-- the notes are the trace's, so the pass is the one along the trace
pub passes : (g : Net) (p : Reduced) (table : List ℕ) (s t : ℕ) (which : Reduction) (path : List ℕ) {next : List ℕ} {w : PartialPath} {after : List ℕ}
    → next ≡ (traced (net_in p) (problem_of p) table s t).1.next
    → (w, after) ≡ forwarded g next s t path
    → (grant_of which w ≡ grant_of which (passed g p table s t path).0) × (after ≡ (passed g p table s t path).1)
unfolding passed
passes g p table s t which path noted pass =
    let is = pass ∙ ap (λ (n : List ℕ). forwarded g n s t path) noted in
    (ap (λ (z : PartialPath × List ℕ). grant_of which z.0) is, ap (λ (z : PartialPath × List ℕ). z.1) is)

module _ (p : Reduced) (s : ℕ) (s_low : s < p.nodes) (l : List ℕ) (memory : work_words ≤ length l) where
  -- work memory has room for every table
  room : Room (net_in p) (problem_of p) l
  unfolding cells net_in problem_of
  room = omega (arith, cells_below p.nodes p.x p.fits.nodes_most p.fits.x_most)

  -- the ends of its links are nodes
  hops_end : Ends (net_in p)
  unfolding net_in
  hops_end = record { tails = p.fits.tail; heads = p.fits.head }

  -- the table that the rounds leave is the paper's
  pub table_as_paper : {l₁ : List ℕ} → l₁ ≡ ebf (net_in p) (problem_of p) s l → LeftByPaper (net_in p) (problem_of p) s l₁
  unfolding net_in
  table_as_paper e = rw e (ebf_as_paper (net_in p) (problem_of p) hops_end p.fits.links_most s s_low l room)

  -- lines 1 to 5 leave every number within the bound, or bound + 1, as the rounds require
  pub table_bounded : {l₁ : List ℕ} → l₁ ≡ initialised (net_in p) (problem_of p) s l → Bounded p l₁
  unfolding net_in problem_of
  table_bounded e v k v_low k_low = rw e ((initialised_good (net_in p) (problem_of p) s l room s_low).below v k v_low k_low)

  module _ (t : ℕ) (t_low : t < p.nodes) {l₂ : List ℕ} (table : l₂ ≡ ebf (net_in p) (problem_of p) s l) where
    solve_is : solve (net_in p) (problem_of p) s t ≡ answer_in (net_in p) (problem_of p) l₂ s t
    unfolding solve_in net_in
    solve_is =
        sym (any_memory_solves (net_in p) (problem_of p) hops_end s t s_low t_low l room)
        ∙ ap (λ (z : List ℕ). answer_in (net_in p) (problem_of p) z s t) (sym table)

    module _ {at : ℕ} (place : at ≡ cell p.x t p.x) where
      unsolved : p.bound < number l₂ at → solve (net_in p) (problem_of p) s t ≡ none
      unfolding answer_in problem_of
      unsolved far = solve_is ∙ simp (lt-leb _ _ (rw place at far))

      solved : number l₂ at ≤ p.bound → solve (net_in p) (problem_of p) s t ≡ some (path_in (net_in p) (problem_of p) l₂ s t)
      unfolding answer_in problem_of
      solved near = solve_is ∙ simp (le-leb _ _ (rw place at near))

      -- the answer by the weights of a network with the same edges
      module _ (g : Net) (edges : SameEdges g (net_in p)) (which : Reduction) (path : List ℕ) where
        abbrev o : Outcome
        o = outcome_of which (solve (net_in p) (problem_of p) s t)

        -- no solution: no word of the path buffer changes
        pub answers_none : p.bound < number l₂ at → (Err NoSolution ≡ search_answer_of g o) × (path ≡ path_after o path)
        unfolding search_answer_of path_after
        answers_none far = (simp (unsolved far), simp (unsolved far))

        -- a solution: the pass along the trace's notes
        module _ (near : number l₂ at ≤ p.bound) where
          abbrev noted : List ℕ
          noted = (traced (net_in p) (problem_of p) l₂ s t).1.next

          abbrev links_found : List ℕ
          links_found = follow g noted t (g.nodes - 1) s

          path_is : solve (net_in p) (problem_of p) s t ≡ some links_found
          unfolding path_in
          path_is = solved near ∙ ap some (ap (λ (n : ℕ). follow (net_in p) noted t (n - 1) s) (sym edges.nodes) ∙ sym (follow_depends g (net_in p) edges noted t (g.nodes - 1) s))

          pub answers_path : path_words ≤ length path → {a : Grant} {path₁ : List ℕ}
              → a ≡ grant_of which (passed g p l₂ s t path).0
              → path₁ ≡ (passed g p l₂ s t path).1
              → (Ok a ≡ search_answer_of g o) × (path₁ ≡ path_after o path)
          unfolding search_answer_of path_after passed net_in
          answers_path buffer {a} stated left =
              let fits : length links_found ≤ length path = omega (arith, follow_short g noted t (g.nodes - 1) s, edges.nodes, p.fits.nodes_most) in
              let slow = forward_delay g noted s t path in
              let dear = forward_cost g noted s t path in
              let long = forward_links g noted s t path in
              (rw stated (simp (path_is, slow, dear, long)), left ∙ simp path_is (forward_path g noted s t path fits))
