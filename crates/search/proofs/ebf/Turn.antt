-- One turn of the trace over plain values, away from s: the trace stays where the kept word is no link and where the
-- link's scaled weight is more than is left, else it goes back along the link. With `step_home` of Trace.antt, at s, these are
-- the four ways through the test of `step_back`.
-- Assumes nothing.
use mathlib.Core.Path.{◌≡◌}
use mathlib.Core.List.{List}
use lib.ListN.{length}
use Prim.Native.Nat.{ℕ, ◌-◌, ◌≤◌, ◌<◌}
use borrow.Author.Tests.{ne_eqb, le-leb, lt-leb, lt-ltb, le-ltb}
use Rattle.network.specs.Cut.{Notes, note_at}
use Rattle.search.specs.declared.TracePlace.{TracePlace}
use Rattle.search.specs.ebf.Table.{cell, link_at}
use Rattle.search.specs.ebf.Trace.{step_back, place_back}
use Rattle.search.specs.declared.reduced.Reduced.{Reduced}
use Rattle.search.specs.Solver.{hop, net_in, problem_of}

module _ (p : Reduced) (work : List ℕ) (s : ℕ) (w : TracePlace) (n : Notes) where
  -- the turn as the code's contract has it
  abbrev Turned : TracePlace → Notes → Type 0
  Turned r after = (r, after) ≡ step_back (net_in p) (problem_of p) work s (w, n)

  module _ (i : ℕ) (away : w.node ≡ s → ⊥) (kept_here : i ≡ link_at work (cell p.x w.node w.column)) where
    -- the word is no link
    pub stays_unlisted : length p.hops.now ≤ i → Turned w n
    unfolding step_back net_in problem_of
    stays_unlisted h = simp (ne_eqb _ _ away, ← kept_here, le-leb _ _ h)

    module _ (listed : i < length p.hops.now) where
      -- the link's scaled weight is more than is left
      pub stays_spent : w.column < (hop p i).step → Turned w n
      unfolding step_back net_in problem_of
      stays_spent h = simp (ne_eqb _ _ away, ← kept_here, lt-leb _ _ listed, lt-ltb _ _ h)

      -- the trace goes back
      pub goes_back : (after : Notes) → (hop p i).step ≤ w.column → after ≡ note_at (hop p i).tail i n
          → Turned (record { node = (hop p i).tail; column = w.column - (hop p i).step }) after
      unfolding step_back place_back net_in problem_of
      goes_back after h notes = simp (ne_eqb _ _ away, ← kept_here, lt-leb _ _ listed, le-ltb _ _ h, notes)
