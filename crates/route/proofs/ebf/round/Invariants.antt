-- The table is `round` as far as k has risen, and where no other round is due, each column passed is settled.
use Rattle.std.proofs.Common.{◌≡◌, ℕ, ◌<◌, false}
use Rattle.network.specs.Loops.{iter}
use Rattle.search.specs.ebf.Table.{column}
use Rattle.search.specs.ebf.Settled.{SettledColumn}
use Rattle.search.specs.Solver.{net_in, problem_of}
use Rattle.route.proofs.ebf.round.Given as goal

abbrev pub invariant-loop-k : goal.invariant-loop-k
invariant-loop-k l = record {
  risen : l.work ≡ iter (column (net_in l.p) (problem_of l.p)) l.k l.initial.work;
  settled : l.due ≡ false → (j : ℕ) → j < l.k → SettledColumn (net_in l.p) (problem_of l.p) j l.work;
}
