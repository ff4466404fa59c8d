-- The network that a search is handed, in the terms of the definitions.
-- Assumes nothing.
use Rattle.network.specs.Net.{Net}
use Rattle.network.specs.Words.{net_of}
use Rattle.route.specs.declared.net.Network.{Network}

-- what its links' words, its flags, its delays and its costs say
abbrev pub described : Network → Net
described net = net_of net.nodes net.links.count net.links.words.now net.usable.now net.delays.now net.costs.now
