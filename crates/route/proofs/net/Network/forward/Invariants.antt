-- The partial path and the path are those after k turns, and the partial path has k links at most.
use Rattle.std.proofs.Common.{◌≡◌}
use Rattle.network.specs.Loops.{iter}
use Rattle.search.specs.Forward.{OnWay, advanced}
use Rattle.route.specs.Described.{described}
use Rattle.route.proofs.net.Network.forward.Given as goal

abbrev pub invariant-loop-k : goal.invariant-loop-k
invariant-loop-k l = record {
  is : (l.w, l.path) ≡ iter (λ _. advanced (described l.self) l.next l.t) l.k (l.initial.w, l.initial.path);
  on : OnWay l.self.nodes l.k l.w;
}
