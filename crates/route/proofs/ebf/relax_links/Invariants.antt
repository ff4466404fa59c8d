-- The table is `column` as far as the links were tried, and where no other round is due, each of them is settled.
use Rattle.std.proofs.Common.{◌≡◌, ℕ, ◌<◌, false, length}
use Rattle.network.specs.Limits.{work_words}
use Rattle.network.specs.Loops.{iter}
use Rattle.search.specs.ebf.Table.{offered}
use Rattle.search.specs.ebf.Settled.{Settled}
use Rattle.search.specs.Solver.{net_in, problem_of}
use Rattle.route.proofs.ebf.relax_links.Given as goal

abbrev pub invariant-loop-i : goal.invariant-loop-i
invariant-loop-i l = record {
  whole : length l.work ≡ work_words;
  tried : l.work ≡ iter (offered (net_in l.p) (problem_of l.p) l.k) l.i l.initial.work;
  settled : l.due ≡ false → (j : ℕ) → j < l.i → Settled (net_in l.p) (problem_of l.p) l.k j l.work;
  handed : l.due ≡ false → l.again ≡ false;
}
