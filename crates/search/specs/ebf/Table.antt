-- The table d[v, k] of the extended Bellman-Ford search as the code keeps it in the words of work memory, with the lines of
-- ../Paper.antt that each step is. Line 5 makes d[v, k] the least kept weight found of a walk from s to v with scaled weight
-- at most k.
-- Assumes nothing.
use Rattle.std.specs.Prelude.{ℕ, ◌+◌, ◌*◌, ◌-◌, Bool, cond, ◌&&◌, List, ltb, leb, get_or, set}
use Rattle.network.specs.Limits.{most_links, most_nodes, most_x}
use Rattle.network.specs.Loops.{iter}
use Rattle.network.specs.Net.{Net}
use Rattle.network.specs.Problem.{Problem}

-- the cell of d[v, k], and how many cells there are
unfoldable pub cell : ℕ → ℕ → ℕ → ℕ
cell x v k = v * (x + 1) + k

unfoldable pub cells : ℕ → ℕ → ℕ
cells n x = n * (x + 1)

-- and at most
abbrev pub most_cells : ℕ
most_cells = most_nodes * (most_x + 1)

-- a cell's number d[v, k], and the link by which v was reached there, in the words of work memory
abbrev pub number : List ℕ → ℕ → ℕ
number l c = get_or l (2 * c) 0

abbrev pub link_at : List ℕ → ℕ → ℕ
link_at l c = get_or l (2 * c + 1) 0

abbrev pub put : List ℕ → ℕ → ℕ → ℕ → List ℕ
put l c d i = set (set l (2 * c) d) (2 * c + 1) i

-- what stands for ∞, a number over the bound, and for NIL, a word that is no link
abbrev pub infinity : Problem → ℕ
infinity q = q.bound + 1

abbrev pub no_link : ℕ
no_link = most_links

-- lines 1 to 3, where there are n cells
unfoldable pub filled : ℕ → ℕ → List ℕ → List ℕ
filled n far l = iter (λ c r. put r c far no_link) n l

-- lines 4 and 5: one cell of the source for each k from 0 to x, and its number
abbrev pub source_cells : Problem → ℕ
source_cells q = q.x + 1

abbrev pub source_number : ℕ
source_number = 0

abbrev pub started : Problem → ℕ → List ℕ → List ℕ
started q s l = iter (λ k r. set r (2 * cell q.x s k) source_number) (source_cells q) l

-- lines 1 to 5
unfoldable pub initialised : Net → Problem → ℕ → List ℕ → List ℕ
initialised g q s l = started q s (filled (cells g.nodes q.x) (infinity q) l)

-- lines 8 to 10: link i of kept weight w leads from cell a to cell b. From a cell that was not reached nothing is offered
abbrev pub better : ℕ → ℕ → ℕ → ℕ → List ℕ → Bool
better a b w bound l = leb (number l a) bound && ltb (number l a + w) (number l b)

unfoldable pub improved : ℕ → ℕ → ℕ → ℕ → ℕ → List ℕ → List ℕ
improved a b w bound i l = cond (better a b w bound l) (put l b (number l a + w) i) l

-- line 7: scaled weight k is allowed
abbrev pub allowed : Problem → ℕ → Bool
allowed q k = leb k q.x

-- lines 6 to 10: link i is tried from its tail at k
unfoldable pub relaxed : Net → Problem → ℕ → ℕ → List ℕ → List ℕ
relaxed g q k i l =
    let to : ℕ = k + q.scaled_by i in
    let after : List ℕ = improved (cell q.x (g.tail i) k) (cell q.x (g.head i) to) (q.kept i) q.bound i l in
    cond (allowed q to) after l

-- line 23's edges are the usable links
abbrev pub is_edge : Net → ℕ → Bool
is_edge g i = g.usable i

-- line 24
unfoldable pub offered : Net → Problem → ℕ → ℕ → List ℕ → List ℕ
offered g q k i l = let after : List ℕ = relaxed g q k i l in cond (is_edge g i) after l

-- lines 23 and 24: the links in table order
unfoldable pub column : Net → Problem → ℕ → List ℕ → List ℕ
column g q k l = iter (offered g q k) g.links l

-- lines 22 to 24: k rises
unfoldable pub round : Net → Problem → List ℕ → List ℕ
round g q l = iter (column g q) (q.x + 1) l

-- line 21: a path has at most so many links
abbrev pub round_count : Net → ℕ
round_count g = g.nodes - 1

-- lines 21 to 24
unfoldable pub rounds : Net → Problem → List ℕ → List ℕ
rounds g q l = iter (λ _. round g q) (round_count g) l

-- lines 20 to 24
unfoldable pub ebf : Net → Problem → ℕ → List ℕ → List ℕ
ebf g q s l = rounds g q (initialised g q s l)
