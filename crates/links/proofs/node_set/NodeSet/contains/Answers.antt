-- The code tests the bit as the definition does.
use Rattle.network.specs.NodeSet.{member}
use Rattle.links.proofs.node_set.NodeSet.contains.Goals as goal

pub returns : goal.returns
unfolding member
returns c = rw (c.self.view_is)
