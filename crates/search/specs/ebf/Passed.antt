-- What a finished table grants: the pass from s to t along its trace.
-- Assumes nothing.
use Rattle.std.specs.Prelude.{ℕ, List}
use Rattle.network.specs.Net.{Net}
use Rattle.search.specs.declared.reduced.Reduced.{Reduced}
use Rattle.search.specs.declared.PartialPath.{PartialPath}
use Rattle.search.specs.Solver.{net_in, problem_of}
use Rattle.search.specs.Forward.{forwarded}
use Rattle.search.specs.ebf.Trace.{traced}

-- the path's totals by the weights of the network g, and the path buffer after it
unfoldable pub passed : Net → Reduced → List ℕ → ℕ → ℕ → List ℕ → PartialPath × List ℕ
passed g p table s t path = forwarded g (traced (net_in p) (problem_of p) table s t).1.next s t path
