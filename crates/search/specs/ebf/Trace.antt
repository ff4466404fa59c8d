-- The way back from the target by the links kept in the table, with the last link out of each node noted.
-- Assumes nothing.
use Rattle.std.specs.Prelude.{ℕ, ◌-◌, Bool, cond, ◌||◌, List, ltb, leb, eqb}
use Rattle.network.specs.Loops.{iter}
use Rattle.network.specs.Net.{Net}
use Rattle.network.specs.Problem.{Problem}
use Rattle.network.specs.Cut.{Notes, no_notes, note_link}
use Rattle.search.specs.declared.TracePlace.{TracePlace}
use Rattle.search.specs.ebf.Table.{cell, cells, link_at}

-- one link back along link i
unfoldable pub place_back : Net → Problem → ℕ → TracePlace → TracePlace
place_back g q i w = record { node = g.tail i; column = w.column - q.scaled_by i }

-- the trace stays where it arrived; also where a word of the table is no link that could lead there, which the
-- law of the table rules out
abbrev pub stays : Net → Problem → ℕ → ℕ → TracePlace → Bool
stays g q s i w = eqb w.node s || (leb g.links i || ltb w.column (q.scaled_by i))

unfoldable pub step_back : Net → Problem → List ℕ → ℕ → TracePlace × Notes → TracePlace × Notes
step_back g q l s st =
    let i : ℕ = link_at l (cell q.x st.0.node st.0.column) in
    let back : TracePlace × Notes = (place_back g q i st.0, note_link g i st.1) in
    cond (stays g q s i st.0) st back

-- the trace from t at x on; no trace has more links than the table has cells
unfoldable pub traced : Net → Problem → List ℕ → ℕ → ℕ → TracePlace × Notes
traced g q l s t = iter (λ _. step_back g q l s) (cells g.nodes q.x) (record { node = t; column = q.x }, no_notes)
