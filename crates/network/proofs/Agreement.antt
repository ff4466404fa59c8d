-- What the numbers of document 01 say of each other, so that a number that is changed without the others breaks a law here:
-- x and the links of a path by the nodes and the coefficient, and bounds that no path of links in their ranges is over.
-- Assumes nothing.
use Prim.Native.Nat.{◌+◌, ◌*◌, ◌-◌, ◌≤◌}
use mathlib.Core.Path.{◌≡◌, refl}
use native.Mathlib.Omega.{arith}
use Rattle.network.specs.Limits.{most_nodes, most_path_links, most_coefficient, most_x, most_delay, most_hold, most_cost, most_delay_bound, most_cost_bound, path_words, most_weight, most_bound}

-- a path passes no node twice, and a path buffer holds each
pub path_links : most_path_links ≡ most_nodes - 1
path_links = refl

pub path_held : most_path_links ≤ path_words
path_held = omega arith

-- x is the coefficient times the links of a path
pub x_most : most_x ≡ most_coefficient * most_path_links
x_most = refl

-- the greatest bounds allow every path
-- those of delay the holds of all inner nodes as well
pub delay_allowed : most_path_links * most_delay + (most_path_links - 1) * most_hold ≤ most_delay_bound
delay_allowed = omega arith

pub cost_allowed : most_path_links * most_cost ≤ most_cost_bound
cost_allowed = omega arith

-- what is said of both weights at once holds of each
pub either_weight : (most_delay + most_hold ≤ most_weight) × (most_cost ≤ most_weight)
either_weight = (omega arith, omega arith)

pub either_bound : (most_delay_bound ≤ most_bound) × (most_cost_bound ≤ most_bound)
either_bound = (omega arith, omega arith)
