-- The fewest links from s to t, by layers of the node set: x is measured by it before any problem is tried.
-- Assumes nothing.
use Rattle.std.specs.Prelude.{ℕ, Bool, cond, ◌&&◌, ltb, Option, Some, None}
use Rattle.network.specs.Loops.{iter, first}
use Rattle.network.specs.Net.{Net}
use Rattle.network.specs.NodeSet.{member, inserted}

-- a usable link out of the set
abbrev pub leaves : Net → ℕ → ℕ → Bool
leaves g set i = g.usable i && member set (g.tail i)

-- adds its head
abbrev pub spread_link : Net → ℕ → ℕ → ℕ → ℕ
spread_link g set i more = let wider : ℕ = inserted more (g.head i) in cond (leaves g set i) wider more

unfoldable pub spread : Net → ℕ → ℕ
spread g set = iter (spread_link g set) g.links set

-- the nodes that at most k links reach
unfoldable pub layer : Net → ℕ → ℕ → ℕ
layer g s k = iter (λ _. spread g) k (inserted 0 s)

-- the first layer that t is in, or the number of nodes where there is no path: a path has fewer links
unfoldable pub distance : Net → ℕ → ℕ → ℕ
distance g s t = first (λ k. member (layer g s k) t) g.nodes

-- a distance of k says that there is a path
abbrev pub somewhere : Net → ℕ → Bool
somewhere g k = ltb k g.nodes

-- the distance, where there is a path
unfoldable pub distance_if_any : Net → ℕ → ℕ → Option ℕ
distance_if_any g s t = let found : Option ℕ = Some (distance g s t) in cond (somewhere g (distance g s t)) found None
