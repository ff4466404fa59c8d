-- What lines 1 to 5 leave: 0 at every cell of the source, ∞ at every other cell, and NIL at all of them.
-- Assumes nothing.
use mathlib.Core.Path.{◌≡◌, refl, ◌∙◌}
use mathlib.Core.List.{List}
use Prim.Native.Nat.{ℕ, ◌+◌, ◌*◌, ◌≤◌, ◌<◌}
use native.Mathlib.Omega.{arith}
use lib.ListN.{length, set, length-set}
use lib.Seq.{get_or-set_same, get_or-set_other}
use Rattle.network.specs.Loops.{iter}
use Rattle.network.specs.Net.{Net}
use Rattle.network.specs.Problem.{Problem}
use Rattle.network.proofs.Loops.{iter_keeps, iter_brings}
use Rattle.network.proofs.Tests.{by_eq}
use Rattle.search.specs.ebf.Table.{cell, cells, number, link_at, put, infinity, no_link, filled, source_cells, source_number, initialised}
use Rattle.search.proofs.ebf.Good.{Room}
use Rattle.search.proofs.ebf.Rows.{row_cell}
use Rattle.search.proofs.ebf.Cells.{cell_inside, cell_node, length_put, number_put_same, number_put_other, link_put_same, link_put_other}

-- ---- lines 1 to 3
-- what stands for ∞, and NIL, at cell c
record Unreached (far c : ℕ) (l : List ℕ) : Type 0 where
  pub room : 2 * c + 1 < length l
  pub number : number l c ≡ far
  pub link : link_at l c ≡ no_link

length_filled : (n far : ℕ) (l : List ℕ) → length (filled n far l) ≡ length l
unfolding filled
length_filled n far l =
    iter_keeps (λ c r. put r c far no_link) (λ (r : List ℕ). length r ≡ length l) n l (λ c r low e. length_put r c far _ ∙ e) refl

module _ (far c : ℕ) where
  put_here : (l : List ℕ) → 2 * c + 1 < length l → Unreached far c (put l c far no_link)
  put_here l has =
      record {
        room = rw length_put has;
        number = number_put_same l c far no_link has;
        link = link_put_same l c far no_link has;
      }

  put_again : (i : ℕ) (l : List ℕ) → Unreached far c l → Unreached far c (put l i far no_link)
  put_again i l h =
      by_eq c i (λ e. rw (← e) (put_here l h.room))
      (λ ne.
      record {
        room = rw length_put h.room;
        number = number_put_other l i far no_link c ne ∙ h.number;
        link = link_put_other l i far no_link c ne ∙ h.link;
      })

  filled_inside : (n : ℕ) (l : List ℕ) → c < n → 2 * c + 1 < length l → Unreached far c (filled n far l)
  unfolding filled
  filled_inside n l low has =
      iter_brings (λ c r. put r c far no_link) (λ (r : List ℕ). 2 * c + 1 < length r) (Unreached far c) c n low
      (λ i r _ h. rw length_put h) put_here put_again l has

-- ---- lines 4 and 5, as far as they have come
module _ (q : Problem) (s : ℕ) where
  abbrev turn : ℕ → List ℕ → List ℕ
  turn k r = set r (2 * cell q.x s k) source_number

  module _ (n : ℕ) (l : List ℕ) where
    length_turns : length (iter turn n l) ≡ length l
    length_turns = iter_keeps turn (λ (r : List ℕ). length r ≡ length l) n l (λ k r low e. length-set r (2 * cell q.x s k) source_number ∙ e) refl

    -- the words that none of them writes: a link's, and the number of another node
    turns_keep_links : (c : ℕ) → link_at (iter turn n l) c ≡ link_at l c
    turns_keep_links c =
        iter_keeps turn (λ (r : List ℕ). link_at r c ≡ link_at l c) n l
        (λ k r low e. get_or-set_other r (2 * cell q.x s k) (2 * c + 1) source_number 0 (λ z. omega arith) ∙ e) refl

    turns_keep_numbers : n ≤ source_cells q → (v k : ℕ) → k ≤ q.x → (v ≡ s → ⊥) → number (iter turn n l) (cell q.x v k) ≡ number l (cell q.x v k)
    turns_keep_numbers few v k k_low other =
        iter_keeps turn (λ (r : List ℕ). number r (cell q.x v k) ≡ number l (cell q.x v k)) n l
        (λ j r low e.
        get_or-set_other r (2 * cell q.x s j) (2 * cell q.x v k) source_number 0
        (λ z. other (cell_node q.x v k s j k_low (omega arith) (omega arith)))
        ∙ e)
        refl

  -- the number of the source at k
  record Started (k : ℕ) (l : List ℕ) : Type 0 where
    pub room : 2 * cell q.x s k < length l
    pub number : number l (cell q.x s k) ≡ source_number

  module _ (k : ℕ) where
    turn_here : (l : List ℕ) → 2 * cell q.x s k < length l → Started k (turn k l)
    turn_here l has =
        record { room = rw length-set has; number = get_or-set_same l (2 * cell q.x s k) source_number 0 has }

    turn_again : (j : ℕ) (l : List ℕ) → Started k l → Started k (turn j l)
    turn_again j l h =
        by_eq k j (λ e. rw (← e) (turn_here l h.room))
        (λ ne.
        record {
          room = rw length-set h.room;
          number =
              get_or-set_other l (2 * cell q.x s j) (2 * cell q.x s k) source_number 0
              (λ z. ne (omega (arith, row_cell q.x s k, row_cell q.x s j)))
              ∙ h.number;
        })

    turns_start : (n : ℕ) (l : List ℕ) → k < n → 2 * cell q.x s k < length l → Started k (iter turn n l)
    turns_start n l low has =
        iter_brings turn (λ (r : List ℕ). 2 * cell q.x s k < length r) (Started k) k n low (λ i r _ h. rw length-set h) turn_here turn_again l has

-- ---- lines 1 to 5
module _ (g : Net) (q : Problem) (s : ℕ) (l : List ℕ) where
  abbrev unreached : List ℕ
  unreached = filled (cells g.nodes q.x) (infinity q) l

  pub initialised_length : length (initialised g q s l) ≡ length l
  unfolding initialised
  initialised_length = length_turns q s (source_cells q) unreached ∙ length_filled (cells g.nodes q.x) (infinity q) l

  module _ (room : Room g q l) where
    module _ (v k : ℕ) (v_low : v < g.nodes) (k_low : k ≤ q.x) where
      at_first : Unreached (infinity q) (cell q.x v k) unreached
      at_first =
          let inside : cell q.x v k < cells g.nodes q.x = cell_inside g.nodes q.x v k v_low k_low in
          filled_inside (infinity q) (cell q.x v k) (cells g.nodes q.x) l inside (omega arith)

      -- a node other than the source was not reached
      pub initialised_far : (v ≡ s → ⊥) → number (initialised g q s l) (cell q.x v k) ≡ infinity q
      unfolding initialised
      initialised_far other = turns_keep_numbers q s (source_cells q) unreached (omega arith) v k k_low other ∙ at_first.number

      pub initialised_nil : link_at (initialised g q s l) (cell q.x v k) ≡ no_link
      unfolding initialised
      initialised_nil = turns_keep_links q s (source_cells q) unreached (cell q.x v k) ∙ at_first.link

    pub initialised_starts : s < g.nodes → (k : ℕ) → k ≤ q.x → number (initialised g q s l) (cell q.x s k) ≡ 0
    unfolding initialised
    initialised_starts s_low k k_low =
        let inside : cell q.x s k < cells g.nodes q.x = cell_inside g.nodes q.x s k s_low k_low in
        let started = turns_start q s k (source_cells q) unreached (omega arith) (omega (arith, length_filled (cells g.nodes q.x) (infinity q) l)) in
        started.number
