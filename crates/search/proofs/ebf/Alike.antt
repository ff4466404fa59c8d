-- What one reduced problem answers depends on the network only through its edges, and on the weights of these: the loops
-- over the links run below `links`, and the way back stays at a word that is no link.
-- Assumes nothing.
use mathlib.Core.Path.{◌≡◌, refl, ap, ◌∙◌}
use mathlib.Core.Bool.{or-true}
use mathlib.Core.List.{List}
use Prim.Native.Nat.{ℕ, ◌+◌, ◌*◌, ◌-◌, ◌<◌}
use lib.ListN.{replicate}
use borrow.Author.Tests.{le-leb}
use Rattle.network.specs.Loops.{iter}
use Rattle.network.specs.Net.{Net}
use Rattle.network.specs.Problem.{Problem}
use Rattle.network.specs.Cut.{Notes, no_notes}
use Rattle.network.proofs.Tests.{by_lt}
use Rattle.search.specs.Solver.{SameEdges, SameWeights}
use Rattle.search.specs.declared.TracePlace.{TracePlace}
use Rattle.search.specs.ebf.Table.{cell, cells, link_at, initialised, relaxed, offered, column, round, round_count, rounds, ebf}
use Rattle.search.specs.ebf.Trace.{place_back, step_back, traced}
use Rattle.search.specs.ebf.Solve.{path_in, answer_in, solve_in, solve}
use Rattle.search.proofs.Alike.{loop_depends, follow_depends}

module _ (g o : Net) (same : SameEdges g o) (q p : Problem) (alike : SameWeights g.links q p) where
  -- ---- the table
  offered_depends : (k i : ℕ) (l : List ℕ) → i < g.links → offered g q k i l ≡ offered o p k i l
  unfolding offered relaxed
  offered_depends k i l low =
      rw (same.usable i low, same.tail i low, same.head i low, alike.kept i low, alike.scaled_by i low, alike.x, alike.bound)

  column_depends : (k : ℕ) (l : List ℕ) → column g q k l ≡ column o p k l
  unfolding column
  column_depends k = loop_depends (offered g q k) (offered o p k) g.links o.links same.links (offered_depends k)

  round_depends : (l : List ℕ) → round g q l ≡ round o p l
  unfolding round
  round_depends =
      loop_depends (column g q) (column o p) (q.x + 1) (p.x + 1) (rw alike.x) (λ k l _. column_depends k l)

  initialised_depends : (s : ℕ) (l : List ℕ) → initialised g q s l ≡ initialised o p s l
  unfolding initialised
  initialised_depends s l = rw (alike.x, alike.bound, same.nodes) refl

  ebf_depends : (s : ℕ) (l : List ℕ) → ebf g q s l ≡ ebf o p s l
  unfolding ebf rounds
  ebf_depends s l =
      loop_depends (λ _. round g q) (λ _. round o p) (round_count g) (round_count o) (ap (λ n. n - 1) same.nodes) (λ _ l _. round_depends l)
      (initialised g q s l)
      ∙ ap (iter (λ _. round o p) (round_count o)) (initialised_depends s l)

  -- ---- the way back: it stays at a word that is no link
  step_depends : (l : List ℕ) (s : ℕ) (st : TracePlace × Notes) → step_back g q l s st ≡ step_back o p l s st
  unfolding step_back place_back
  step_depends l s st =
      let i : ℕ = link_at l (cell q.x st.0.node st.0.column) in
      by_lt i g.links
      (λ low. cc (same.tail i low, alike.scaled_by i low))
      (λ high. rw (← alike.x) (simp (le-leb g.links i high, le-leb o.links i (rw same.links at high), or-true)))

  traced_depends : (l : List ℕ) (s t : ℕ) → traced g q l s t ≡ traced o p l s t
  unfolding traced
  traced_depends l s t =
      loop_depends (λ _. step_back g q l s) (λ _. step_back o p l s) (cells g.nodes q.x) (cells o.nodes p.x) (cc)
      (λ _ st _. step_depends l s st) (record { node = t; column = q.x }, no_notes)
      ∙ cc

  -- ---- the answer
  answer_depends : (l : List ℕ) (s t : ℕ) → answer_in g q l s t ≡ answer_in o p l s t
  unfolding answer_in path_in
  answer_depends l s t = cc (traced_depends l s t, follow_depends g o same (traced g q l s t).1.next t (g.nodes - 1) s)

  pub solve_depends : (s t : ℕ) → solve g q s t ≡ solve o p s t
  unfolding solve solve_in
  solve_depends s t =
      let l : List ℕ = replicate (2 * cells g.nodes q.x) 0 in
      cc (ebf_depends s l, answer_depends (ebf g q s l) s t)
