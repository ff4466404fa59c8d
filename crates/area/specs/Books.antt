-- What the calls ask of a station: the units that circuits take of a link, which numbers are held, a path's delay, and the
-- network that a request sees. Answers are defined through `Books`, so stations with equal books answer alike.
-- Assumes nothing.
use Rattle.std.specs.Prelude.{ℕ, ◌+◌, ◌-◌, Bool, true, cond, List, [], ◌∷◌, map, leb, eqb, length}
use Rattle.network.specs.Lists.{memb}
use Rattle.network.specs.Net.{Net, sum}
use Rattle.network.specs.Words.{net_by}
use Rattle.network.specs.declared.Request.{Request}
use Rattle.area.specs.Station.{Table, Circuit, Station, head_of, delay_of, cost_of, capacity_of, hold_of}

-- the units that a circuit takes of a link
abbrev pub units_on : Circuit → ℕ → ℕ
units_on c i = cond (memb i c.path) c.units 0

-- the units that circuits take of a link
abbrev pub usage : List Circuit → ℕ → ℕ
usage [] i = 0
usage (c ∷ cs) i = units_on c i + usage cs i

abbrev pub numbers : List Circuit → List ℕ
numbers cs = map (λ c. c.number) cs

-- has one of the circuits this number
abbrev pub holds : List Circuit → ℕ → Bool
holds cs k = memb k (numbers cs)

-- document 01's free units: capacity minus what the circuits take
abbrev pub free : Station → ℕ → ℕ
free s i = capacity_of s.table i - usage s.held i

pub record Books : Type 0 where
  pub table : Table
  pub free : ℕ → ℕ
  pub holds : ℕ → Bool
  pub count : ℕ

unfoldable pub books : Station → Books
books s = record { table = s.table; free = free s; holds = holds s.held; count = length s.held }

-- ---- delays and hold times
-- the nodes that a path passes between its ends
abbrev pub inner_nodes : Table → List ℕ → List ℕ
inner_nodes t [] = []
inner_nodes t (i ∷ []) = []
inner_nodes t (i ∷ j ∷ p) = head_of t i ∷ inner_nodes t (j ∷ p)

-- a path's delay: its links' delays and the hold times of its inner nodes, never of its ends
abbrev pub path_delay : Table → List ℕ → ℕ
path_delay t p = sum (delay_of t) p + sum (hold_of t) (inner_nodes t p)

-- a link's delay as a request to `target` scales and sums it: with the hold time of the node that the link enters, unless
-- that is the target. proofs/Holds.antt shows that these sum to a path's delay
abbrev pub hold_into : Table → ℕ → ℕ → ℕ
hold_into t target v = cond (eqb v target) 0 (hold_of t v)

unfoldable pub delay_to : Table → ℕ → ℕ → ℕ
delay_to t target i = delay_of t i + hold_into t target (head_of t i)

-- ---- networks
-- a table's network, of which those links are usable that `usable` says, with these delays
abbrev pub table_net : Table → (ℕ → Bool) → (ℕ → ℕ) → Net
table_net t usable delay = net_by t.nodes t.links t.words usable delay (cost_of t)

-- a link is usable for a request if its free units are at least the units asked for
abbrev pub usable_for : Books → Request → ℕ → Bool
usable_for o r i = leb r.terms.units (o.free i)

-- the network that a request sees
unfoldable pub net : Books → Request → Net
unfolding delay_to
net o r = table_net o.table (usable_for o r) (delay_to o.table r.target)

-- the same by the links' own delays, as it is where no node holds anything
unfoldable pub net_unheld : Books → Request → Net
net_unheld o r = table_net o.table (usable_for o r) (delay_of o.table)

-- the whole table as a network
unfoldable pub whole : Table → Net
whole t = table_net t (λ i. true) (delay_of t)
