-- Every link is listed with its weights, which are in their ranges.
use Rattle.std.proofs.Common.{ℕ, ◌<◌, List, take, refl, arith}
use Rattle.std.proofs.lemmas.List.{get_or-take, length-take-le}
use Rattle.network.specs.Net.{Net}
use Rattle.network.specs.Problem.{Problem}
use Rattle.search.specs.declared.reduced.Hop.{Hop}
use Rattle.search.specs.Hops.{no_hop, nth_hop}
use Rattle.search.specs.Solver.{Weighed}
use Rattle.search.proofs.Reductions.{weighed_fits, weighed_reduces}
use Rattle.route.proofs.net.Network.reduced.Goals as goal

-- the first m entries of the array are those links too
first_listed : (g : Net) (q : Problem) (hops : List Hop) (m : ℕ) → ((j : ℕ) → j < m → Weighed g q j (nth_hop hops j))
    → (j : ℕ) → j < m → Weighed g q j (nth_hop (take m hops) j)
first_listed g q hops m each j low = rw (get_or-take m hops j no_hop low) (each j low)

pub invariant_of-result : goal.invariant_of-result
invariant_of-result c = record {
  fits =
      weighed_fits _ _ _ _ _ _ _ _ _ _ c.args.self.now.table c.requires.terms c.requires.x_le_most_x
      (length-take-le c.args.self.now.links.count c.loop-i.hops (omega (arith, c.loop-i.invariant.whole, c.args.self.now.table.links_most)))
      (first_listed _ _ c.loop-i.hops _ (λ j low. c.loop-i.invariant.listed j (omega (arith, low)))) _ c.by_problem.ensures;
}

pub returns : goal.returns
returns c =
    weighed_reduces _ _ _ _ _ _ _ _ _ _ _ refl
    (length-take-le c.args.self.now.links.count c.loop-i.hops (omega (arith, c.loop-i.invariant.whole, c.args.self.now.table.links_most)))
    refl c.by_problem.ensures refl (first_listed _ _ c.loop-i.hops _ (λ j low. c.loop-i.invariant.listed j (omega (arith, low))))
