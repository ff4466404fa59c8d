-- What work memory held before makes no difference to the answer: lines 1 to 5 set both words of every cell, a relaxation does
-- the same to both memories, and so their traces go the same way.
-- Assumes nothing.
use mathlib.Core.Path.{◌≡◌, refl, sym, ◌∙◌}
use mathlib.Core.List.{List}
use Prim.Native.Nat.{ℕ, ◌+◌, ◌*◌, ◌≤◌, ◌<◌}
use native.Mathlib.Nat.{le_refl}
use native.Mathlib.Omega.{arith}
use lib.ListN.{length, replicate, length-replicate}
use Rattle.search.specs.declared.TracePlace.{TracePlace}
use borrow.Author.Tests.{leb-false}
use Rattle.std.proofs.lemmas.Bool.{or_parts}
use Rattle.network.specs.Net.{Net, Ends}
use Rattle.network.specs.Problem.{Problem}
use Rattle.network.specs.Cut.{Notes, no_notes, note_link}
use Rattle.network.proofs.Tests.{by_eq, by_test, both_cond}
use Rattle.network.proofs.Loops.{iter_both}
use Rattle.search.specs.ebf.Table.{cell, cells, number, put, better, initialised, improved, allowed, relaxed, is_edge, offered, column, round, round_count, rounds, ebf}
use Rattle.search.specs.ebf.Trace.{place_back, stays, step_back, traced}
use Rattle.search.specs.ebf.Solve.{path_in, answer_in, solve_in, solve}
use Rattle.search.proofs.ebf.Decided.{allowed_small}
use Rattle.search.proofs.ebf.Cells.{cell_inside, length_put, number_put_same, number_put_other, link_put_same, link_put_other}
use Rattle.search.proofs.ebf.Good.{at, via, Room}
use Rattle.search.proofs.ebf.Initialised.{initialised_far, initialised_nil}
use Rattle.search.proofs.ebf.Sound.{initialised_good}

module _ (g : Net) (q : Problem) (s : ℕ) where
  -- both words of every cell are the same in both
  record Same (l l' : List ℕ) : Type 0 where
    pub room : Room g q l
    pub room' : Room g q l'
    pub numbers : (v k : ℕ) → v < g.nodes → k ≤ q.x → at q l v k ≡ at q l' v k
    pub links : (v k : ℕ) → v < g.nodes → k ≤ q.x → via q l v k ≡ via q l' v k

  -- ---- a relaxation does the same to both
  put_same : (c d i : ℕ) (l l' : List ℕ) → c < cells g.nodes q.x → Same l l' → Same (put l c d i) (put l' c d i)
  put_same c d i l l' inside same =
      record {
        room = rw length_put same.room;
        room' = rw length_put same.room';
        numbers = λ v k v_low k_low.
            by_eq (cell q.x v k) c (λ e. rw e (number_put_same l c d i has ∙ sym (number_put_same l' c d i has')))
            (λ e. number_put_other l c d i _ e ∙ same.numbers v k v_low k_low ∙ sym (number_put_other l' c d i _ e));
        links = λ v k v_low k_low.
            by_eq (cell q.x v k) c (λ e. rw e (link_put_same l c d i has ∙ sym (link_put_same l' c d i has')))
            (λ e. link_put_other l c d i _ e ∙ same.links v k v_low k_low ∙ sym (link_put_other l' c d i _ e));
      }
    where
      has : 2 * c + 1 < length l
      has = omega (arith, same.room)

      has' : 2 * c + 1 < length l'
      has' = omega (arith, same.room')

  improved_same : (a b w i : ℕ) (l l' : List ℕ) → number l a ≡ number l' a → number l b ≡ number l' b → b < cells g.nodes q.x
      → Same l l'
      → Same (improved a b w q.bound i l) (improved a b w q.bound i l')
  unfolding improved
  improved_same a b w i l l' ea eb inside same =
      rw (← ea, ← eb) (both_cond Same (better a b w q.bound l) (λ e. put_same b (number l a + w) i l l' inside same) (λ _. same))

  offered_same : Ends g → (k i : ℕ) (l l' : List ℕ) → k ≤ q.x → i < g.links → Same l l' → Same (offered g q k i l) (offered g q k i l')
  unfolding offered relaxed
  offered_same ends k i l l' k_low listed same =
      both_cond Same (is_edge g i)
      (λ u.
      both_cond Same (allowed q (k + q.scaled_by i))
      (λ e.
      let small : k + q.scaled_by i ≤ q.x = allowed_small q _ e in
      improved_same (cell q.x (g.tail i) k) (cell q.x (g.head i) (k + q.scaled_by i)) (q.kept i) i l l'
      (same.numbers (g.tail i) k (ends.tails i listed) k_low) (same.numbers (g.head i) (k + q.scaled_by i) (ends.heads i listed) small)
      (cell_inside g.nodes q.x (g.head i) (k + q.scaled_by i) (ends.heads i listed) small) same)
      (λ _. same))
      (λ _. same)

  rounds_same : Ends g → (l l' : List ℕ) → Same l l' → Same (rounds g q l) (rounds g q l')
  unfolding rounds round column
  rounds_same ends =
      iter_both (λ _. round g q) (λ _. round g q) Same (round_count g)
      (λ r l l' _.
      iter_both (column g q) (column g q) Same (q.x + 1)
      (λ k l l' k_low.
      iter_both (offered g q k) (offered g q k) Same g.links (λ i l l' listed. offered_same ends k i l l' (omega arith) listed) l l')
      l l')

  -- ---- lines 1 to 5 make them so
  initialised_same : s < g.nodes → (l l' : List ℕ) → Room g q l → Room g q l' → Same (initialised g q s l) (initialised g q s l')
  initialised_same s_low l l' room room' =
      let good = initialised_good g q s l room s_low in
      let good' = initialised_good g q s l' room' s_low in
      record {
        room = good.room;
        room' = good'.room;
        numbers = λ v k v_low k_low.
            by_eq v s (λ e. rw e (good.source k k_low ∙ sym (good'.source k k_low)))
            (λ e. initialised_far g q s l room v k v_low k_low e ∙ sym (initialised_far g q s l' room' v k v_low k_low e));
        links = λ v k v_low k_low. initialised_nil g q s l room v k v_low k_low ∙ sym (initialised_nil g q s l' room' v k v_low k_low);
      }

  -- ---- two memories along their traces
  module _ (ends : Ends g) (l l' : List ℕ) (same : Same l l') where
    -- two traces that stand at the same cell of the table, with the same notes
    record Together (st st' : TracePlace × Notes) : Type 0 where
      pub equal : st ≡ st'
      pub node : st.0.node < g.nodes
      pub column : st.0.column ≤ q.x

    -- the same word is read there, so they go on together
    step_together : (st st' : TracePlace × Notes) → Together st st' → Together (step_back g q l s st) (step_back g q l' s st')
    unfolding step_back place_back
    step_together st st' h =
        let i : ℕ = via q l st.0.node st.0.column in
        let link : i ≡ via q l' st.0.node st.0.column = same.links st.0.node st.0.column h.node h.column in
        rw (← h.equal, ← link)
        (by_test (stays g q s i st.0) st (place_back g q i st.0, note_link g i st.1) (λ (r : TracePlace × Notes). Together r r)
        (λ e. record { equal = refl; node = h.node; column = h.column })
        (λ e. record { equal = refl; node = ends.tails i (leb-false _ _ (or_parts _ _ (or_parts _ _ e).1).0); column = omega (arith, h.column) }))

    traced_same : (t : ℕ) → t < g.nodes → traced g q l s t ≡ traced g q l' s t
    unfolding traced
    traced_same t t_low =
        let first : TracePlace × Notes = (record { node = t; column = q.x }, no_notes) in
        let all = iter_both (λ _. step_back g q l s) (λ _. step_back g q l' s) Together (cells g.nodes q.x) (λ _ a b _. step_together a b) first first
        (record { equal = refl; node = t_low; column = le_refl q.x }) in
        all.equal

    -- ---- the answer
    answer_same : (t : ℕ) → t < g.nodes → answer_in g q l s t ≡ answer_in g q l' s t
    unfolding answer_in path_in
    answer_same t t_low = rw (← same.numbers t q.x t_low (le_refl _), ← traced_same t t_low) refl

pub any_memory : (g : Net) (q : Problem) → Ends g → (s t : ℕ) → s < g.nodes → t < g.nodes → (l l' : List ℕ) → Room g q l → Room g q l'
    → solve_in g q s t l ≡ solve_in g q s t l'
unfolding solve_in ebf
any_memory g q ends s t s_low t_low l l' room room' =
    answer_same g q s ends (ebf g q s l) (ebf g q s l') (rounds_same g q s ends _ _ (initialised_same g q s s_low l l' room room')) t t_low

-- ---- the memory of zeros, by which `solve` is defined
pub zeros_room : (g : Net) (q : Problem) → Room g q (replicate (2 * cells g.nodes q.x) 0)
zeros_room g q = rw (length-replicate {A = ℕ} (2 * cells g.nodes q.x) 0) (le_refl _)

pub any_memory_solves : (g : Net) (q : Problem) → Ends g → (s t : ℕ) → s < g.nodes → t < g.nodes → (l : List ℕ) → Room g q l
    → solve_in g q s t l ≡ solve g q s t
unfolding solve
any_memory_solves g q ends s t s_low t_low l room = any_memory g q ends s t s_low t_low l _ room (zeros_room g q)
