-- One reduced problem solved: the table, then the way back with its loops cut.
-- Assumes nothing.
use Rattle.std.specs.Prelude.{ℕ, ◌*◌, ◌-◌, Bool, cond, List, leb, replicate}
use Rattle.std.proofs.Math.Option.{Option, none, some}
use Rattle.network.specs.Net.{Net}
use Rattle.network.specs.Problem.{Problem}
use Rattle.network.specs.Cut.{follow}
use Rattle.search.specs.ebf.Table.{cell, cells, number, ebf}
use Rattle.search.specs.ebf.Trace.{traced}

-- the path that a finished table holds for t
unfoldable pub path_in : Net → Problem → List ℕ → ℕ → ℕ → List ℕ
path_in g q l s t = follow g (traced g q l s t).1.next t (g.nodes - 1) s

-- whether a finished table says that t is reached within both bounds
abbrev pub reached : Problem → List ℕ → ℕ → Bool
reached q l t = leb (number l (cell q.x t q.x)) q.bound

unfoldable pub answer_in : Net → Problem → List ℕ → ℕ → ℕ → Option (List ℕ)
answer_in g q l s t =
    let path : Option (List ℕ) = some (path_in g q l s t) in cond (reached q l t) path none

-- the answer found in a work memory that holds l at first
unfoldable pub solve_in : Net → Problem → ℕ → ℕ → List ℕ → Option (List ℕ)
solve_in g q s t l = answer_in g q (ebf g q s l) s t

-- the answer: that of a memory of zeros, and by law that of any memory
unfoldable pub solve : Net → Problem → ℕ → ℕ → Option (List ℕ)
solve g q s t = solve_in g q s t (replicate (2 * cells g.nodes q.x) 0)
