-- The cells are `filled` as far as the loop has come.
use Rattle.std.proofs.Common.{◌≡◌}
use Rattle.network.specs.Loops.{iter}
use Rattle.search.specs.ebf.Table.{put, infinity, no_link}
use Rattle.search.specs.Solver.{problem_of}
use Rattle.route.proofs.table.clear.Given as goal

abbrev pub invariant-loop-c : goal.invariant-loop-c
invariant-loop-c l = l.work ≡ iter (λ c r. put r c (infinity (problem_of l.p)) no_link) l.c l.initial.work
