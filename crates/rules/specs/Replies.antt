-- What quote, admission and release reply, what they leave in the path buffer, and what a reply says to the caller.
-- Assumes nothing.
use Rattle.std.specs.Prelude.{ℕ, List, [], ◌++◌, length, drop}
use Rattle.network.specs.Net.{Net, sum}
use Rattle.network.specs.Reduce.{Outcome, no_path, no_solution, granted}
use Rattle.network.specs.declared.answer.Reduction.{Reduction}
use Rattle.network.specs.declared.Grant.{Grant as Numbers}
use Rattle.area.specs.Refusals.{Reply, refuses, grants}

-- ---- quote and admission
-- what they grant: the problem, and a path with its delay and cost
pub record PathGrant : Type 0 where
  pub problem : Reduction
  pub delay : ℕ
  pub cost : ℕ
  pub path : List ℕ

abbrev pub PathReply : Type 0
PathReply = Reply PathGrant

-- the reply that grants the path p by problem `which`, with delay d and cost c
abbrev pub granting : Reduction → ℕ → ℕ → List ℕ → PathReply
granting which d c p = grants (record { problem = which; delay = d; cost = c; path = p })

-- what a reply says to the caller: document 01's number, or the problem, delay, cost and number of links
unfoldable pub answer_of : PathReply → Reply Numbers
answer_of (refuses k) = refuses k
answer_of (grants g) =
    grants (record { problem = g.problem; delay = g.delay; cost = g.cost; links = length g.path })

-- the words of the path that it grants
abbrev pub path_of : PathReply → List ℕ
path_of (refuses k) = []
path_of (grants g) = g.path

-- a granted path stands in the first l words of the path buffer, the others keep theirs; a refusal changes none
unfoldable pub path_after : PathReply → List ℕ → List ℕ
path_after (refuses k) l = l
path_after (grants g) l = g.path ++ drop (length g.path) l

-- ---- what the search found
-- the reply for what a search on a network found
unfoldable pub reply_of : Net → Outcome → PathReply
reply_of g no_path = refuses 9
reply_of g no_solution = refuses 10
reply_of g (granted which p) = granting which (sum g.delay p) (sum g.cost p) p

-- ---- release
-- it grants that the circuit goes, and nothing besides
abbrev pub ReleaseReply : Type 0
ReleaseReply = Reply (Unit {0})

abbrev pub releases : ReleaseReply
releases = grants tt
