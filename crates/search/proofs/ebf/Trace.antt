-- The trace of a good table is a walk from the source to the target within the numbers of the table, and its notes are
-- the walk's notes: a trace passes no cell twice, so the budget of links is enough, and each turn follows one link of it.
-- Assumes nothing.
use mathlib.Core.Path.{◌≡◌, refl, sym, ap, subst, ◌∙◌}
use mathlib.Core.List.{List, [], ◌∷◌}
use Prim.Native.Nat.{ℕ, zero, suc, ◌+◌, ◌-◌, ◌≤◌, ◌<◌}
use native.Mathlib.Nat.{le_refl, add-suc}
use native.Mathlib.Omega.{arith}
use lib.ListN.{length}
use borrow.Author.Tests.{eq-eqb, ne_eqb, lt-leb, le-ltb}
use Rattle.network.specs.Lists.{All, Distinct}
use Rattle.network.specs.Loops.{iter}
use Rattle.network.specs.Net.{Net, Ends, Walk, sum}
use Rattle.network.specs.Problem.{Problem}
use Rattle.network.specs.Cut.{Notes, notes}
use Rattle.network.proofs.Few.{few}
use Rattle.network.proofs.Loops.{iter_none, iter_stays, iter_first}
use Rattle.search.specs.declared.TracePlace.{TracePlace}
use Rattle.search.specs.ebf.Table.{cell, cells}
use Rattle.search.specs.ebf.Trace.{step_back, place_back, traced}
use Rattle.search.proofs.ebf.Cells.{cell_inside, cell_node, cell_column}
use Rattle.search.proofs.ebf.Good.{at, via, Step, Trace, Good}

-- the trace at v and k, after the links of p
abbrev pub place : Net → ℕ → ℕ → List ℕ → TracePlace × Notes
place g v k p = (record { node = v; column = k }, notes g p)

module _ (g : Net) (q : Problem) (s : ℕ) (l : List ℕ) where
  -- where the link kept at a cell comes from: its node and column
  abbrev before : ℕ → ℕ → ℕ
  before v k = g.tail (via q l v k)

  abbrev left : ℕ → ℕ → ℕ
  left v k = k - q.scaled_by (via q l v k)

  -- ---- a trace has no more links than the table has cells
  -- a trace is as long as its cell says
  one_length : (n m v k : ℕ) → Trace g q s l n v k → Trace g q s l m v k → n ≡ m
  one_length zero zero v k h h' = refl
  one_length zero (suc m) v k h h' = absurd (h'.0 h)
  one_length (suc n) zero v k h h' = absurd (h.0 h')
  one_length (suc n) (suc m) v k h h' = ap suc (one_length n m _ _ h.2 h'.2)

  -- the cells that it passes before its own
  passed : ℕ → ℕ → ℕ → List ℕ
  passed zero v k = []
  passed (suc n) v k = cell q.x (before v k) (left v k) ∷ passed n (before v k) (left v k)

  length_passed : (n v k : ℕ) → length (passed n v k) ≡ n
  unfolding passed
  length_passed zero v k = refl
  length_passed (suc n) v k = ap suc (length_passed n _ _)

  passed_inside : Ends g → (n v k : ℕ) → k ≤ q.x → Trace g q s l n v k → All (λ c. c < cells g.nodes q.x) (passed n v k)
  unfolding passed
  passed_inside ends zero v k h tr = tt
  passed_inside ends (suc n) v k h tr =
      (cell_inside g.nodes q.x _ _ (ends.tails _ tr.1.listed) (omega arith), passed_inside ends n _ _ (omega arith) tr.2)

  -- none of them is a cell whose trace is longer
  passed_apart : (n v k m v' k' : ℕ) → k ≤ q.x → k' ≤ q.x → Trace g q s l n v k → Trace g q s l m v' k' → n ≤ m
      → All (λ c. cell q.x v' k' ≡ c → ⊥) (passed n v k)
  unfolding passed
  passed_apart zero v k m v' k' h h' tr tr' more = tt
  passed_apart (suc n) v k m v' k' h h' tr tr' more = (
    λ e.
        let u : ℕ = before v k in
        let j : ℕ = left v k in
        let j_low : j ≤ q.x = omega arith in
        let again : Trace g q s l m u j =
        subst (λ (w : ℕ). Trace g q s l m w j) (cell_node q.x v' k' u j h' j_low e)
        (subst (λ (w : ℕ). Trace g q s l m v' w) (cell_column q.x v' k' u j h' j_low e) tr') in
        omega (arith, one_length n m u j tr.2 again),
    passed_apart n _ _ m v' k' (omega arith) h' tr.2 tr' (omega arith),
  )

  passed_distinct : (n v k : ℕ) → k ≤ q.x → Trace g q s l n v k → Distinct (passed n v k)
  unfolding passed
  passed_distinct zero v k h tr = tt
  passed_distinct (suc n) v k h tr =
      (passed_apart n _ _ n _ _ (omega arith) (omega arith) tr.2 tr.2 (le_refl n), passed_distinct n _ _ (omega arith) tr.2)

  -- so it is no longer than the table
  pub short : Ends g → (n v k : ℕ) → k ≤ q.x → Trace g q s l n v k → n ≤ cells g.nodes q.x
  short ends n v k h tr =
      omega (arith, length_passed n v k, few (cells g.nodes q.x) (passed n v k) (passed_distinct n v k h tr) (passed_inside ends n v k h tr))

  -- ---- the turns
  -- at the source the trace stays
  pub step_home : (st : TracePlace × Notes) → st.0.node ≡ s → step_back g q l s st ≡ st
  unfolding step_back
  step_home st e = simp (eq-eqb _ _ e)

  -- elsewhere it takes the link kept there
  pub step_on : (v k : ℕ) (p : List ℕ) → (v ≡ s → ⊥) → Step g q l v k (via q l v k)
      → step_back g q l s (place g v k p) ≡ place g (before v k) (left v k) (via q l v k ∷ p)
  unfolding step_back place_back
  step_on v k p other st = simp (ne_eqb v s other, lt-leb _ _ st.listed, le-ltb _ _ st.room)

  -- what the turns along a trace from v and k give, where the links of p led on to t
  record TracedTo (t v k : ℕ) (p : List ℕ) (noted_last : Notes) (r : List ℕ) : Type 0 where
    pub walk : Walk g s t r
    pub kept : sum q.kept r ≤ at q l v k + sum q.kept p
    pub scaled : sum q.scaled_by r ≤ k + sum q.scaled_by p
    pub noted : noted_last ≡ notes g r

  traced_back : (n d t v k : ℕ) (p : List ℕ) → Trace g q s l n v k → Walk g v t p
      → (r : List ℕ) × TracedTo t v k p (iter (λ _. step_back g q l s) (d + n) (place g v k p)).1 r
  traced_back zero d t v k p tr w = (
    p,
    record {
      walk = rw (← tr) w;
      kept = omega arith;
      scaled = omega arith;
      noted = ap (λ (st : TracePlace × Notes). st.1)
          (sym (iter_stays (λ _. step_back g q l s) 0 d (place g v k p) (place g v k p) (iter_none _ _) (λ i. step_home (place g v k p) tr)));
    },
  )
  traced_back (suc n) d t v k p tr w =
      let i : ℕ = via q l v k in
      let onward : Walk g (g.tail i) t (i ∷ p) = (tr.1.listed, tr.1.usable, refl, rw tr.1.leads w) in
      let rest = traced_back n d t (g.tail i) (k - q.scaled_by i) (i ∷ p) tr.2 onward in
      let turn : iter (λ _. step_back g q l s) (d + suc n) (place g v k p) ≡ iter (λ _. step_back g q l s) (d + n) (place g (before v k) (left v k) (i ∷ p)) =
      rw add-suc (iter_first (step_back g q l s) (d + n) (place g v k p)) ∙ ap (iter (λ _. step_back g q l s) (d + n)) (step_on v k p tr.0 tr.1) in (
        rest.0,
        record {
          walk = rest.1.walk;
          kept = omega (arith, rest.1.kept, tr.1.falls);
          scaled = omega (arith, rest.1.scaled, tr.1.room);
          noted = ap (λ (st : TracePlace × Notes). st.1) turn ∙ rest.1.noted;
        },
      )

  -- ---- the whole trace: a walk to t within the table's number and x, and its notes
  pub record IsTraced (t : ℕ) (p : List ℕ) : Type 0 where
    pub walk : Walk g s t p
    pub kept : sum q.kept p ≤ at q l t q.x
    pub scaled : sum q.scaled_by p ≤ q.x
    pub noted : (traced g q l s t).1 ≡ notes g p

pub trace_walk : (g : Net) (q : Problem) → Ends g → (s : ℕ) (l : List ℕ) → Good g q s l → (t : ℕ) → t < g.nodes
    → at q l t q.x ≤ q.bound
    → (p : List ℕ) × IsTraced g q s l t p
unfolding traced
trace_walk g q ends s l good t t_low within =
    let tr = good.traced t q.x t_low (le_refl _) within in
    let n : ℕ = tr.0 in
    let all : ℕ = cells g.nodes q.x in
    let enough : all - n + n ≡ all = omega (arith, short g q s l ends n t q.x (le_refl _) tr.1) in
    let r = traced_back g q s l n (all - n) t t q.x [] tr.1 refl in (
      r.0,
      record {
        walk = r.1.walk;
        kept = omega (arith, r.1.kept);
        scaled = omega (arith, r.1.scaled);
        noted = rw enough at r.1.noted;
      },
    )
