-- The pass from s to t along the links that a trace noted: the path's words and its own sums. It knows no table.
-- Assumes nothing.
use Rattle.std.specs.Prelude.{ℕ, ◌+◌, ◌*◌, ◌-◌, ◌≤◌, ◌<◌, cond, ◌||◌, List, eqb, leb, get_or, set}
use Rattle.network.specs.Limits.{most_weight}
use Rattle.network.specs.Loops.{iter}
use Rattle.network.specs.Net.{Net}
use Rattle.network.specs.declared.Grant.{Grant}
use Rattle.network.specs.declared.answer.Reduction.{Reduction}
use Rattle.search.specs.declared.PartialPath.{PartialPath}

abbrev pub path_start : ℕ → PartialPath
path_start s = record { node = s; links = 0; delay = 0; cost = 0 }

-- one link more
unfoldable pub path_on : Net → ℕ → PartialPath → PartialPath
path_on g i w =
    record { node = g.head i; links = w.links + 1; delay = w.delay + g.delay i; cost = w.cost + g.cost i }

-- the pass stays where it arrived, and where a note is no link
unfoldable pub advanced : Net → List ℕ → ℕ → PartialPath × List ℕ → PartialPath × List ℕ
advanced g next t st =
    let i : ℕ = get_or next st.0.node 0 in
    let on : PartialPath × List ℕ = (path_on g i st.0, set st.1 st.0.links i) in
    cond (eqb st.0.node t || leb g.links i) st on

-- the whole pass: a path has at most nodes − 1 links
unfoldable pub forwarded : Net → List ℕ → ℕ → ℕ → List ℕ → PartialPath × List ℕ
forwarded g next s t path = iter (λ _. advanced g next t) (g.nodes - 1) (path_start s, path)

-- after at most k links
pub record OnWay (n k : ℕ) (w : PartialPath) : Type 0 where
  pub node : w.node < n
  pub links : w.links ≤ k
  pub delay : w.delay ≤ most_weight * w.links
  pub cost : w.cost ≤ most_weight * w.links

-- a grant of the problem `which`, from the pass along its path
abbrev pub grant_of : Reduction → PartialPath → Grant
grant_of which w = record { problem = which; delay = w.delay; cost = w.cost; links = w.links }
