-- The first layer with the target is found at its turn; where no turn finds one there is none.
use Rattle.std.proofs.Common.{◌≡◌, ◌∙◌, ℕ, Bool, arith, below_more}
use borrow.Author.Count.{below_none}
use Rattle.network.specs.NodeSet.{member, inserted}
use Rattle.network.specs.Words.{net_of}
use Rattle.network.proofs.Loops.{iter_none, iter_more}
use Rattle.search.specs.Distance.{layer}
use Rattle.search.proofs.Distance.{distance_here, distance_nowhere}
use Rattle.route.proofs.net.Network.distance.Goals as goal

-- a test of the set is a test of the layer
stated : {set a : ℕ} (v : ℕ) {t b : Bool} → set ≡ a → t ≡ member set v → t ≡ b → member a v ≡ b
stated v e q is = cc

pub loop-k-init : goal.loop-k-init
unfolding layer
loop-k-init c =
    let set : c.with-set.result ≡ inserted 0 c.args.s = cc in
    record { is = set ∙ iter_none _ _; none = below_none _ }

pub returns-then-contains : goal.returns-then-contains
unfolding net_of
returns-then-contains c =
    distance_here _ _ _ _ c.loop-k.invariant.none (omega arith) (stated _ c.loop-k.invariant.is c.contains.ensures c.if-contains.true)

pub loop-k-preserved : goal.loop-k-preserved
unfolding layer
loop-k-preserved c = record {
  is = iter_more _ _ _ c.loop-k.invariant.is c.spread-set.ensures;
  none = below_more _ _ c.loop-k.invariant.none (stated _ c.loop-k.invariant.is c.contains.ensures c.if-contains.false);
}

pub returns : goal.returns
unfolding net_of
returns c = distance_nowhere _ _ _ (λ j l. c.loop-k.invariant.none j (omega arith))
