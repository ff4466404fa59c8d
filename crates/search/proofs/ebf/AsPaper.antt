-- The table is the paper's: each step of the code's model keeps every entry beside what its line makes of d and π. A sum over the
-- bound may be missing in the words, but then the entry that it would have changed was over the bound too, and every sum that
-- goes on from it is.
-- Assumes nothing.
use mathlib.Core.Path.{◌≡◌, refl}
use mathlib.Core.List.{List}
use Prim.Native.Nat.{ℕ, ◌+◌, ◌*◌, ◌≤◌, ◌<◌}
use native.Mathlib.Omega.{arith}
use lib.ListN.{length}
use Rattle.network.specs.Net.{Net, Ends}
use Rattle.network.specs.Problem.{Problem}
use Rattle.network.proofs.Loops.{iter_both}
use Rattle.network.proofs.Tests.{by_test, by_eq, both_cond}
use Rattle.search.specs.Paper.{Estimation, weight, ∞, Predecessor, link, NIL, Variables, plus, greater, initialize, line_9, line_10, line_8, line_7, relax, line_24, line_23, line_22, line_21}
use Rattle.search.specs.Paper as paper
use Rattle.search.specs.ebf.Table.{cell, number, link_at, no_link, put, initialised, improved, allowed, relaxed, is_edge, offered, column, round, round_count, rounds, ebf}
use Rattle.search.specs.ebf.AsPaper.{Entry, AsPaper, LeftByPaper}
use Rattle.search.proofs.ebf.Entries.{exact, beyond, stored_both, stored_alone, left_alone}
use Rattle.search.proofs.Paper.{changed_here, changed_elsewhere, source_starts, others_unreached}
use Rattle.search.proofs.ebf.Good.{Room}
use Rattle.search.proofs.ebf.Decided.{allowed_small}
use Rattle.search.proofs.ebf.Cells.{cell_inside, cell_node, cell_column, length_put, number_put_same, number_put_other, link_put_same, link_put_other}
use Rattle.search.proofs.ebf.Relaxed.{improved_cases, tail_cell, head_cell}
use Rattle.search.proofs.ebf.Initialised.{initialised_length, initialised_starts, initialised_far, initialised_nil}

-- ---- one relaxation
module _ (g : Net) (q : Problem) where
  -- the table's words beside the paper's variables
  pub record Beside (l : List ℕ) (t : Variables) : Type 0 where
    pub room : Room g q l
    pub entries : AsPaper g q l t

  module _ (ends : Ends g) (k i : ℕ) (k_low : k ≤ q.x) (listed : i < g.links) (l : List ℕ) (t : Variables) (beside : Beside l t) where
    abbrev w : ℕ
    w = q.kept i

    abbrev n_tail : ℕ
    n_tail = number l (tail_cell g q k i)

    abbrev n_head : ℕ
    n_head = number l (head_cell g q k i)

    -- the paper's estimations at the tail and at the head, and what it has after lines 9 and 10
    abbrev d_tail : Estimation
    d_tail = t.d (g.tail i) k

    abbrev d_head : Estimation
    d_head = t.d (g.head i) (k + q.scaled_by i)

    abbrev stored : List ℕ
    stored = put l (head_cell g q k i) (n_tail + w) i

    abbrev assigned : Variables
    assigned = line_10 g q k i (line_9 g q k i t)

    module _ (small : k + q.scaled_by i ≤ q.x) where
      head_low : g.head i < g.nodes
      head_low = ends.heads i listed

      has : 2 * head_cell g q k i + 1 < length l
      has = omega (arith, cell_inside g.nodes q.x (g.head i) (k + q.scaled_by i) head_low small, beside.room)

      at_tail : Entry g q.bound d_tail (t.π (g.tail i) k) n_tail (link_at l (tail_cell g q k i))
      at_tail = beside.entries (g.tail i) k (ends.tails i listed) k_low

      at_head : Entry g q.bound d_head (t.π (g.head i) (k + q.scaled_by i)) n_head (link_at l (head_cell g q k i))
      at_head = beside.entries (g.head i) (k + q.scaled_by i) head_low small

      -- where the words and the variables differ from what they were at the head alone, only that entry is to be looked at
      only_head : (l' : List ℕ) (t' : Variables) → length l' ≡ length l
          → ((c : ℕ) → (c ≡ head_cell g q k i → ⊥) → (number l' c ≡ number l c) × (link_at l' c ≡ link_at l c))
          → ((v j : ℕ) → (v ≡ g.head i → j ≡ k + q.scaled_by i → ⊥) → (t'.d v j ≡ t.d v j) × (t'.π v j ≡ t.π v j))
          → Entry g q.bound (t'.d (g.head i) (k + q.scaled_by i)) (t'.π (g.head i) (k + q.scaled_by i)) (number l' (head_cell g q k i)) (link_at l' (head_cell g q k i))
          → Beside l' t'
      only_head l' t' long words variables here =
          record {
            room = omega (arith, long, beside.room);
            entries = λ v j v_low j_low.
                by_eq (cell q.x v j) (head_cell g q k i)
                (λ e.
                rw (cell_node q.x v j (g.head i) (k + q.scaled_by i) j_low small e, cell_column q.x v j (g.head i) (k + q.scaled_by i) j_low small e)
                here)
                (λ ne.
                let other : v ≡ g.head i → j ≡ k + q.scaled_by i → ⊥ = λ a b. ne (rw (a, b) refl) in
                let d_same = (variables v j other).0 in
                let π_same = (variables v j other).1 in
                rw (d_same, π_same, (words (cell q.x v j) ne).0, (words (cell q.x v j) ne).1) (beside.entries v j v_low j_low));
          }

      words_stored : (c : ℕ) → (c ≡ head_cell g q k i → ⊥) → (number stored c ≡ number l c) × (link_at stored c ≡ link_at l c)
      words_stored c ne =
          (number_put_other l (head_cell g q k i) (n_tail + w) i c ne, link_put_other l (head_cell g q k i) (n_tail + w) i c ne)

      variables_assigned : (v j : ℕ) → (v ≡ g.head i → j ≡ k + q.scaled_by i → ⊥)
          → (assigned.d v j ≡ t.d v j) × (assigned.π v j ≡ t.π v j)
      variables_assigned v j other = (
        changed_elsewhere t.d _ _ _ v j other,
        changed_elsewhere t.π _ _ _ v j other,
      )

      -- the entry at the head, where the words were stored and where the variables were assigned
      stored_number : number stored (head_cell g q k i) ≡ n_tail + w
      stored_number = number_put_same l (head_cell g q k i) (n_tail + w) i has

      stored_link : link_at stored (head_cell g q k i) ≡ i
      stored_link = link_put_same l (head_cell g q k i) (n_tail + w) i has

      assigned_d : assigned.d (g.head i) (k + q.scaled_by i) ≡ plus d_tail w
      assigned_d = changed_here t.d (g.head i) (k + q.scaled_by i) (plus d_tail w)

      assigned_π : assigned.π (g.head i) (k + q.scaled_by i) ≡ link i
      assigned_π = changed_here t.π (g.head i) (k + q.scaled_by i) (link i)

      -- lines 8 to 10
      line_8_beside : Beside (improved (tail_cell g q k i) (head_cell g q k i) w q.bound i l) (line_8 g q k i t)
      unfolding line_8
      line_8_beside =
          improved_cases (tail_cell g q k i) (head_cell g q k i) w q.bound i l (λ (r : List ℕ). Beside r (line_8 g q k i t))
          (λ within less.
          by_test (greater d_head (plus d_tail w)) assigned t (λ (r : Variables). Beside stored r)
          (λ e.
          only_head stored assigned (length_put l (head_cell g q k i) (n_tail + w) i) words_stored variables_assigned
          (rw (assigned_d, assigned_π, stored_number, stored_link)
          (stored_both g q.bound i w d_tail d_head _ _ n_tail _ n_head _ at_tail at_head within listed)))
          (λ e.
          only_head stored t (length_put l (head_cell g q k i) (n_tail + w) i) words_stored (λ v j _. (refl, refl))
          (rw (stored_number, stored_link) (stored_alone g q.bound i w d_tail d_head _ _ n_tail _ n_head _ at_tail at_head within less e))))
          (λ left.
          by_test (greater d_head (plus d_tail w)) assigned t (λ (r : Variables). Beside l r)
          (λ e.
          only_head l assigned refl (λ c _. (refl, refl)) variables_assigned
          (rw (assigned_d, assigned_π) (left_alone g q.bound i w d_tail d_head _ _ n_tail _ n_head _ at_tail at_head left e)))
          (λ e. beside))

    -- lines 6 to 10
    pub relax_beside : Beside (relaxed g q k i l) (relax g q k i t)
    unfolding relaxed line_7
    relax_beside =
        both_cond Beside (allowed q (k + q.scaled_by i)) (λ e. line_8_beside (allowed_small q _ e)) (λ _. beside)

    -- line 24
    pub line_24_beside : Beside (offered g q k i l) (line_24 g q k i t)
    unfolding offered line_24
    line_24_beside = both_cond Beside (is_edge g i) (λ _. relax_beside) (λ _. beside)

  -- ---- the rounds
  module _ (ends : Ends g) where
    -- lines 21 to 24
    pub rounds_beside : (l : List ℕ) (t : Variables) → Beside l t → Beside (rounds g q l) (line_21 g q t)
    unfolding rounds round column line_21 line_22 line_23
    rounds_beside =
        iter_both (λ _. round g q) (λ _. line_22 g q) Beside (round_count g)
        (λ _ l t _.
        iter_both (column g q) (line_23 g q) Beside (q.x + 1)
        (λ k l t k_low.
        iter_both (offered g q k) (line_24 g q k) Beside g.links (λ i l t listed. line_24_beside ends k i (omega arith) listed l t) l t)
        l t)

    -- ---- lines 1 to 5, and all of it
    module _ (few : g.links ≤ no_link) (s : ℕ) (s_low : s < g.nodes) (l : List ℕ) (room : Room g q l) where
      initialize_beside : (before : Variables) → Beside (initialised g q s l) (initialize g q s before)
      initialize_beside before =
          record {
            room = omega (arith, initialised_length g q s l, room);
            entries = λ v k v_low k_low.
                by_eq v s
                (λ e.
                let here = source_starts g q s before k k_low s_low in
                let n = initialised_starts g q s l room s_low k k_low in
                let i = initialised_nil g q s l room s k s_low k_low in
                rw (e, here.d, here.π, n, i) (exact g q.bound 0 no_link NIL few))
                (λ ne.
                let there = others_unreached g q s before k k_low v v_low ne in
                let n = initialised_far g q s l room v k v_low k_low ne in
                rw (there.d, n) (beyond g q.bound ∞ _ _ _ (λ z. z) (omega arith)));
          }

      pub ebf_as_paper : LeftByPaper g q s (ebf g q s l)
      unfolding ebf paper.ebf
      ebf_as_paper before =
          let all = rounds_beside (initialised g q s l) (initialize g q s before) (initialize_beside before) in
          all.entries
