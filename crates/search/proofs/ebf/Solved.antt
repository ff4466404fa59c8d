-- What one reduced problem answers is a best solution, and none only where there is none: the trace is a walk of no
-- more weight than the table says, cutting its loops adds none, and no solution weighs less than the table says.
-- Assumes nothing.
use mathlib.Core.Path.{◌≡◌}
use mathlib.Core.List.{List}
use mathlib.Core.Option.{Option, none, some}
use Prim.Native.Nat.{ℕ, ◌*◌, ◌≤◌, ◌<◌}
use native.Mathlib.Omega.{arith}
use lib.ListN.{replicate}
use Rattle.network.specs.Limits.{most_nodes}
use Rattle.network.specs.Net.{Net, Ends, sum}
use Rattle.network.specs.Problem.{Problem, Solves, Best, NoSolution}
use Rattle.network.specs.Cut.{cut}
use Rattle.network.proofs.Tests.{by_test}
use Rattle.network.proofs.Short.{path_short}
use Rattle.network.proofs.Cut.{cut_walk, cut_path}
use Rattle.search.specs.ebf.Table.{cells, ebf}
use Rattle.search.specs.ebf.Solve.{path_in, reached, answer_in, solve_in, solve}
use Rattle.search.proofs.ebf.Decided.{reached_within, unreached_over}
use Rattle.search.proofs.ebf.Good.{at, Room}
use Rattle.search.proofs.ebf.Sound.{ebf_good}
use Rattle.search.proofs.ebf.Complete.{ebf_complete}
use Rattle.search.proofs.ebf.Trace.{trace_walk}
use Rattle.search.proofs.ebf.Memory.{zeros_room}

-- what an answer says of a problem
abbrev pub Solved : Net → Problem → ℕ → ℕ → Option (List ℕ) → Type 0
Solved g q s t (some p) = Best g q s t p
Solved g q s t none = NoSolution g q s t

module _ (g : Net) (q : Problem) (ends : Ends g) (few : g.nodes ≤ most_nodes) (s t : ℕ) (s_low : s < g.nodes) (t_low : t < g.nodes)
    (apart : s ≡ t → ⊥) where
  module _ (l : List ℕ) (room : Room g q l) where
    -- the number that the table says for t
    abbrev stated : ℕ
    stated = at q (ebf g q s l) t q.x

    -- every solution weighs at least that
    least : (o : List ℕ) → Solves g q s t o → stated ≤ sum q.kept o
    least o h = ebf_complete g q ends s s_low l room t o h.path.walk h.reduced (path_short g ends s t s_low o h.path)

    -- and where it is within the bound, the path of the table weighs no more
    found : stated ≤ q.bound → Best g q s t (path_in g q (ebf g q s l) s t)
    unfolding path_in cut
    found within =
        let r = trace_walk g q ends s (ebf g q s l) (ebf_good g q ends s s_low l room) t t_low within in
        let p : List ℕ = r.0 in
        let c = cut_walk g ends few s t s_low p r.1.walk in
        let best : Best g q s t (cut g s t p) =
        record {
          solves = record {
            path = cut_path g ends few s t s_low p r.1.walk apart;
            within = omega (arith, c.less q.kept, r.1.kept);
            reduced = omega (arith, c.less q.scaled_by, r.1.scaled);
          };
          least = λ o h. omega (arith, c.less q.kept, r.1.kept, least o h);
        } in
        rw r.1.noted best

    pub solved_in : Solved g q s t (solve_in g q s t l)
    unfolding solve_in answer_in
    solved_in =
        by_test (reached q (ebf g q s l) t) (some (path_in g q (ebf g q s l) s t)) none (Solved g q s t) (λ e. found (reached_within q (ebf g q s l) t e))
        (λ e o h.
        let high : q.bound < stated = unreached_over q (ebf g q s l) t e in
        omega (arith, least o h, h.within))

  pub solved : Solved g q s t (solve g q s t)
  unfolding solve
  solved = solved_in (replicate (2 * cells g.nodes q.x) 0) (zeros_room g q)
