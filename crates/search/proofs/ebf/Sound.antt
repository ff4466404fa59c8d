-- A number of the table that is within the bound has a trace back to the source. A relaxation sets one cell, whose
-- trace goes on through the tail's; that one has a lesser number, so it does not pass the cell that is set.
-- Assumes nothing.
use mathlib.Core.Path.{◌≡◌, refl, sym, ap, ◌∙◌}
use mathlib.Core.Bool.{true}
use mathlib.Core.List.{List}
use Prim.Native.Nat.{ℕ, zero, suc, ◌+◌, ◌*◌, ◌-◌, ◌≤◌, ◌<◌}
use native.Mathlib.Nat.{le_trans, le_of_eq}
use native.Mathlib.Omega.{arith}
use lib.ListN.{length}
use Rattle.network.specs.Net.{Net, Ends}
use Rattle.network.specs.Problem.{Problem}
use Rattle.network.proofs.Loops.{iter_keeps}
use Rattle.network.proofs.Tests.{by_eq}
use Rattle.search.specs.ebf.Table.{cell, number, link_at, put, initialised, offered, column, round, round_count, rounds, ebf}
use Rattle.search.proofs.ebf.Good.{at, via, Room, Step, Trace, Good}
use Rattle.search.proofs.ebf.Cells.{cell_inside, cell_node, cell_column, length_put, number_put_same, number_put_other, link_put_same, link_put_other, put_lower}
use Rattle.search.proofs.ebf.Initialised.{initialised_length, initialised_starts, initialised_far}
use Rattle.search.proofs.ebf.Relaxed.{tail_cell, head_cell, offer, offered_cases}

module _ (g : Net) (q : Problem) (ends : Ends g) (s : ℕ) where
  -- ---- link i puts its offer at its head
  module _ (k i : ℕ) (l : List ℕ) (good : Good g q s l) (listed : i < g.links) (u : g.usable i ≡ true)
      (small : k + q.scaled_by i ≤ q.x) (near : number l (tail_cell g q k i) ≤ q.bound)
      (less : offer g q k i l < number l (head_cell g q k i)) where
    -- the cell that is set, and the table after it
    abbrev there : ℕ
    there = head_cell g q k i

    abbrev after : List ℕ
    after = put l there (offer g q k i l) i

    has : 2 * there + 1 < length l
    has = omega (arith, cell_inside g.nodes q.x (g.head i) (k + q.scaled_by i) (ends.heads i listed) small, good.room)

    new_number : number after there ≡ offer g q k i l
    new_number = number_put_same l there (offer g q k i l) i has

    new_link : link_at after there ≡ i
    new_link = link_put_same l there (offer g q k i l) i has

    old_number : (c : ℕ) → (c ≡ there → ⊥) → number after c ≡ number l c
    old_number = number_put_other l there (offer g q k i l) i

    old_link : (c : ℕ) → (c ≡ there → ⊥) → link_at after c ≡ link_at l c
    old_link = link_put_other l there (offer g q k i l) i

    lower : (c : ℕ) → number after c ≤ number l c
    lower = put_lower l there (offer g q k i l) i less

    -- a step at another cell stays
    step_kept : (v j : ℕ) → (cell q.x v j ≡ there → ⊥) → Step g q l v j (via q l v j)
        → Step g q after v j (via q after v j)
    step_kept v j e h =
        let i' : ℕ = via q l v j in
        rw (old_link (cell q.x v j) e)
        (record {
          listed = h.listed;
          usable = h.usable;
          leads = h.leads;
          room = h.room;
          falls = omega (arith, h.falls, lower (cell q.x (g.tail i') (j - q.scaled_by i')), old_number (cell q.x v j) e);
        })

    -- a trace that stays below the old number does not pass the cell that is set
    trace_kept : (n v j : ℕ) → Trace g q s l n v j → at q l v j < number l there → Trace g q s after n v j
    trace_kept zero v j h low = h
    trace_kept (suc n) v j h low =
        let other : cell q.x v j ≡ there → ⊥ = λ e. omega (arith, ap (number l) e) in
        let same : via q after v j ≡ via q l v j = old_link (cell q.x v j) other in
        (h.0, step_kept v j other h.1, rw same (trace_kept n _ _ h.2 (omega (arith, h.1.falls))))

    -- the node that is set is not the source
    not_source : g.head i ≡ s → ⊥
    not_source e =
        let none : number l there ≡ 0 = rw e (good.source (k + q.scaled_by i) small) in
        omega arith

    back : (k + q.scaled_by i) - q.scaled_by i ≡ k
    back = omega arith

    -- the cell that is set is traced through link i
    trace_new : (n : ℕ) → Trace g q s l n (g.tail i) k → Trace g q s after (suc n) (g.head i) (k + q.scaled_by i)
    trace_new n h =
        rw new_link (
          not_source,
          record {
            listed = listed;
            usable = u;
            leads = refl;
            room = omega arith;
            falls = rw back (omega (arith, lower (tail_cell g q k i), new_number));
          },
          rw back (trace_kept n (g.tail i) k h (omega arith)),
        )

    -- so is the same cell by any other name
    trace_there : (n v j : ℕ) → j ≤ q.x → cell q.x v j ≡ there → Trace g q s l n (g.tail i) k → Trace g q s after (suc n) v j
    trace_there n v j low e h =
        let node : v ≡ g.head i = cell_node q.x v j (g.head i) (k + q.scaled_by i) low small e in
        let col : j ≡ k + q.scaled_by i = cell_column q.x v j (g.head i) (k + q.scaled_by i) low small e in
        rw (node, col) (trace_new n h)

    -- every other trace goes on, perhaps through that cell
    trace_moved : (m : ℕ) → Trace g q s l m (g.tail i) k → (n v j : ℕ) → j ≤ q.x → Trace g q s l n v j
        → (r : ℕ) × Trace g q s after r v j
    trace_moved m tail_trace zero v j low h = (zero, h)
    trace_moved m tail_trace (suc n) v j low h =
        by_eq (cell q.x v j) there (λ e. (suc m, trace_there m v j low e tail_trace))
        (λ e.
        let same : via q after v j ≡ via q l v j = old_link (cell q.x v j) e in
        let rest = trace_moved m tail_trace n _ _ (omega arith) h.2 in
        (suc rest.0, (h.0, step_kept v j e h.1, rw same rest.1)))

    put_good : Good g q s after
    put_good =
        let tail_trace = good.traced (g.tail i) k (ends.tails i listed) (omega arith) near in
        record {
          room = omega (arith, length_put l there (offer g q k i l) i, good.room);
          source = λ j low.
              old_number (cell q.x s j) (λ e. not_source (sym (cell_node q.x s j (g.head i) (k + q.scaled_by i) low small e)))
              ∙ good.source j low;
          below = λ v j v_low j_low. le_trans (lower (cell q.x v j)) (good.below v j v_low j_low);
          traced = λ v j v_low j_low within.
              by_eq (cell q.x v j) there (λ e. (suc tail_trace.0, trace_there tail_trace.0 v j j_low e tail_trace.1))
              (λ e.
              let old = good.traced v j v_low j_low (omega (arith, old_number (cell q.x v j) e)) in
              trace_moved tail_trace.0 tail_trace.1 old.0 v j j_low old.1);
        }

  -- ---- what a relaxation keeps, the rounds keep
  pub offered_good : (k i : ℕ) (l : List ℕ) → i < g.links → Good g q s l → Good g q s (offered g q k i l)
  offered_good k i l listed good = offered_cases g q k i l (Good g q s) (put_good k i l good listed) good

  pub column_good : (k : ℕ) (l : List ℕ) → Good g q s l → Good g q s (column g q k l)
  unfolding column
  column_good k l = iter_keeps (offered g q k) (Good g q s) g.links l (offered_good k)

  pub round_good : (l : List ℕ) → Good g q s l → Good g q s (round g q l)
  unfolding round
  round_good l = iter_keeps (column g q) (Good g q s) (q.x + 1) l (λ k r _. column_good k r)

-- ---- lines 1 to 5
pub initialised_good : (g : Net) (q : Problem) (s : ℕ) (l : List ℕ) → Room g q l → s < g.nodes → Good g q s (initialised g q s l)
initialised_good g q s l room s_low =
    record {
      room = omega (arith, initialised_length g q s l, room);
      source = initialised_starts g q s l room s_low;
      below = λ v k v_low k_low.
          by_eq v s (λ e. rw e (omega (arith, initialised_starts g q s l room s_low k k_low)))
          (λ e. le_of_eq (initialised_far g q s l room v k v_low k_low e));
      traced = λ v k v_low k_low within.
          by_eq v s (λ e. (zero, e)) (λ e. absurd (omega (arith, initialised_far g q s l room v k v_low k_low e, within)));
    }

-- ---- lines 20 to 24
pub ebf_good : (g : Net) (q : Problem) → Ends g → (s : ℕ) → s < g.nodes → (l : List ℕ) → Room g q l → Good g q s (ebf g q s l)
unfolding ebf rounds
ebf_good g q ends s s_low l room =
    iter_keeps (λ _. round g q) (Good g q s) (round_count g) (initialised g q s l) (λ _ r _. round_good g q ends s r)
    (initialised_good g q s l room s_low)
