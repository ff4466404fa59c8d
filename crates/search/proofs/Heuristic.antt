-- The search finds what it must: the distance says whether there is a path, and each problem is answered by a best
-- solution, or by none where there is none. And it depends on nothing else than `Alike` names.
-- Assumes nothing.
use mathlib.Core.Path.{◌≡◌}
use mathlib.Core.Bool.{true, false}
use mathlib.Core.List.{List}
use mathlib.Core.Option.{Option, none, some}
use Prim.Native.Nat.{ℕ, ◌*◌, ◌≤◌, ◌<◌}
use borrow.Author.Tests.{ltb-true, ltb-false}
use Rattle.network.specs.Limits.{most_nodes}
use Rattle.network.specs.declared.Request.{Request}
use Rattle.network.specs.declared.answer.Reduction.TheVariants.{One, Two}
use Rattle.network.specs.Net.{Net, Ends}
use Rattle.network.specs.Problem.{Distance}
use Rattle.network.specs.Reduce.{no_path, one, two, Found}
use Rattle.network.proofs.Tests.{by_test}
use Rattle.search.specs.Distance.{distance, somewhere}
use Rattle.search.specs.ebf.Solve.{solve}
use Rattle.search.specs.Heuristic.{outcome_of, or_else, tried, search}
use Rattle.search.proofs.Distance.{distance_found, distance_none}
use Rattle.search.proofs.ebf.Solved.{Solved, solved}
use Rattle.search.specs.Result.{Alike}
use Rattle.search.proofs.Alike.{alike_edges, distance_depends, one_depends, two_depends}
use Rattle.search.proofs.ebf.Alike.{solve_depends}

-- a distance below the number of nodes is one
pub nowhere_high : (g : Net) (k : ℕ) → somewhere g k ≡ false → g.nodes ≤ k
nowhere_high g k e = ltb-false _ _ e

pub somewhere_low : (g : Net) (k : ℕ) → somewhere g k ≡ true → k < g.nodes
somewhere_low g k e = ltb-true _ _ e

module _ (g : Net) (r : Request) where
  -- the outcome by what the two problems answer
  by_both : (k : ℕ) → Distance g r.source r.target k → (a b : Option (List ℕ)) → Solved g (one g r k) r.source r.target a
      → Solved g (two g r k) r.source r.target b
      → Found g r (or_else (outcome_of One a) (outcome_of Two b))
  by_both k far (some p) b best more = Found.by_one k p far best
  by_both k far none (some p) nothing best = Found.by_two k p far nothing best
  by_both k far none none nothing more = Found.unsolved k far nothing more

  pub search_finds : Ends g → g.nodes ≤ most_nodes → r.source < g.nodes → r.target < g.nodes → (r.source ≡ r.target → ⊥) → Found g r (search g r)
  unfolding search tried
  search_finds ends few s_low t_low apart =
      let k : ℕ = distance g r.source r.target in
      by_test (somewhere g k) (tried g r (r.terms.coefficient * k)) no_path (Found g r)
      (λ e.
      by_both k (distance_found g ends few r.source r.target s_low apart (somewhere_low g k e))
      (solve g (one g r k) r.source r.target) (solve g (two g r k) r.source r.target)
      (solved g (one g r k) ends few r.source r.target s_low t_low apart)
      (solved g (two g r k) ends few r.source r.target s_low t_low apart))
      (λ e. Found.none (distance_none g ends few r.source r.target s_low apart (nowhere_high g k e)))

module _ (g o : Net) (same : Alike g o) where
  tried_depends : (r : Request) (x : ℕ) → tried g r x ≡ tried o r x
  unfolding tried
  tried_depends r x =
      rw (
        solve_depends g o (alike_edges g o same) _ _ (one_depends g o same r x) r.source r.target,
        solve_depends g o (alike_edges g o same) _ _ (two_depends g o same r x) r.source r.target,
      )

pub search_depends : (g o : Net) → Alike g o → (r : Request) → search g r ≡ search o r
unfolding search
search_depends g o same r =
    cc (distance_depends g o (alike_edges g o same) r.source r.target, tried_depends g o same r (r.terms.coefficient * distance g r.source r.target))
