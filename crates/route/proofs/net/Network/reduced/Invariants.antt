-- The links below i are listed with their weights.
use Rattle.std.proofs.Common.{◌≡◌, ℕ, ◌<◌, length}
use Rattle.network.specs.Limits.{most_links}
use Rattle.search.specs.Hops.{nth_hop}
use Rattle.search.specs.Roles.{problem_by}
use Rattle.search.specs.Solver.{Weighed}
use Rattle.route.specs.Described.{described}
use Rattle.route.proofs.net.Network.reduced.Given as goal

abbrev pub invariant-loop-i : goal.invariant-loop-i
invariant-loop-i l = record {
  whole : length l.hops ≡ most_links;
  listed : (j : ℕ) → j < l.i → Weighed (described l.self) (problem_by (described l.self) l.r l.x l.which) j (nth_hop l.hops j);
}
