-- Document 01's lengths and ranges of links, requests and the search, each under one name, which everything else cites:
-- a number of these is changed here and in `network/src/limits.rt`, which has the same names for the code. The contract of
-- `links::limits::figures` equates the two.
-- Assumes nothing.
use Rattle.std.specs.Prelude.{ℕ, ◌+◌, cond, leb}
use Rattle.network.specs.declared.limits.Limits.{Limits}

-- ---- networks
-- n, the number of nodes, and m, the number of links
abbrev pub least_nodes : ℕ
least_nodes = 2

abbrev pub most_nodes : ℕ
most_nodes = 32

abbrev pub most_links : ℕ
most_links = 256

-- the words of a link: from, to, delay, cost, capacity
abbrev pub link_words : ℕ
link_words = 5

-- a link's delay, cost and capacity
abbrev pub most_delay : ℕ
most_delay = 1000000

abbrev pub most_cost : ℕ
most_cost = 1000000

abbrev pub most_capacity : ℕ
most_capacity = 65535

-- a node's hold time
abbrev pub most_hold : ℕ
most_hold = 1000000

-- l, the number of links of a path: it passes no node twice
abbrev pub least_path_links : ℕ
least_path_links = 1

abbrev pub most_path_links : ℕ
most_path_links = 31

-- ---- requests
-- b, the units asked for
abbrev pub least_units : ℕ
least_units = 1

abbrev pub most_units : ℕ
most_units = 65535

-- the bounds D, of the delay, and C, of the cost
abbrev pub least_bound : ℕ
least_bound = 0

abbrev pub most_delay_bound : ℕ
most_delay_bound = 61000000

abbrev pub most_cost_bound : ℕ
most_cost_bound = 31000000

abbrev pub least_coefficient : ℕ
least_coefficient = 1

abbrev pub most_coefficient : ℕ
most_coefficient = 8

-- x, the coefficient times the distance
abbrev pub most_x : ℕ
most_x = 248

-- ---- what a search is lent: the words of work memory and of a path buffer, at least
abbrev pub work_words : ℕ
work_words = 16384

abbrev pub path_words : ℕ
path_words = 31

-- ---- either of delay and cost, for what is said of both weights at once. To a search a link's delay may include the hold
-- time of the node that the link enters
abbrev greater : ℕ → ℕ → ℕ
greater a b = cond (leb a b) b a

abbrev pub most_weight : ℕ
most_weight = greater (most_delay + most_hold) most_cost

abbrev pub most_bound : ℕ
most_bound = greater most_delay_bound most_cost_bound

-- ---- all of them, as the code's struct has them
abbrev pub figures : Limits
figures =
    record {
      least_nodes = least_nodes;
      most_nodes = most_nodes;
      most_links = most_links;
      link_words = link_words;
      most_delay = most_delay;
      most_cost = most_cost;
      most_capacity = most_capacity;
      most_hold = most_hold;
      least_path_links = least_path_links;
      most_path_links = most_path_links;
      least_units = least_units;
      most_units = most_units;
      least_bound = least_bound;
      most_delay_bound = most_delay_bound;
      most_cost_bound = most_cost_bound;
      least_coefficient = least_coefficient;
      most_coefficient = most_coefficient;
      most_x = most_x;
      work_words = work_words;
      path_words = path_words;
    }
