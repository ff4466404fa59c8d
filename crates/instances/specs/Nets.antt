-- What the instances are about: document 01's net A and net B, the net of free lines and net P as networks, and requests on net
-- A beside those that `cases` names.
-- Assumes nothing.
use Rattle.std.specs.Prelude.{ℕ, true, false, Bool, List, [], ◌∷◌, replicate}
use Rattle.network.specs.Lists.{from}
use Rattle.network.specs.Net.{Net}
use Rattle.network.specs.Words.{field, net_of}
use Rattle.network.specs.declared.Request.{Request}
use Rattle.cases.specs.Document01.{links_a, links_b, asks}
use Rattle.cases.specs.FreeLines.{links_f}
use Rattle.cases.specs.PaperLines.{links_p}

-- ---- the networks
-- word j of each of m links, and a network whose delays and costs are those of the words
abbrev pub column_of : List ℕ → ℕ → ℕ → List ℕ
column_of words j m = from (λ i. field words i j) 0 m

abbrev pub net_of_words : ℕ → ℕ → List ℕ → List Bool → Net
unfolding net_of
net_of_words n m words flags = net_of n m words flags (column_of words 2 m) (column_of words 3 m)

-- every link is usable
abbrev pub net_a : Net
unfolding net_of
net_a = net_of_words 4 4 links_a (replicate 4 true)

abbrev pub net_b : Net
unfolding net_of
net_b = net_of_words 4 4 links_b (replicate 4 true)

-- net A with no usable link: no flag is set
abbrev pub shut_a : Net
unfolding net_of
shut_a = net_of_words 4 4 links_a []

-- the net of free lines
abbrev pub net_f : Net
unfolding net_of
net_f = net_of_words 4 6 links_f (replicate 6 true)

-- net P: link 6 has no unit free
abbrev pub net_p : Net
unfolding net_of
net_p = net_of_words 4 8 links_p (true ∷ true ∷ true ∷ true ∷ true ∷ true ∷ false ∷ true ∷ [])

-- one link that costs nothing, with a delay of 3
abbrev pub slow : Net
unfolding net_of
slow = net_of_words 2 1 (0 ∷ 1 ∷ 3 ∷ 0 ∷ 5 ∷ []) (true ∷ [])

-- ---- the path of net A from 0 to 3 by link 3; `three` of `cases` is the other
abbrev pub straight : List ℕ
straight = 3 ∷ []

-- ---- the requests of M1, M4 and M6; `cases` has those of M2 and M3
abbrev pub m1 : Request
m1 = asks 1 8 20 5

abbrev pub m4 : Request
m4 = asks 1 8 15 8

abbrev pub m6 : Request
m6 = asks 1 9 20 8
