-- Net H of the cases of hold times, with any hold times: what is loaded, its table, and the ledger's books before any entry.
-- Assumes nothing.
use Rattle.std.specs.Prelude.{ℕ, List, [], ◌∷◌}
use Rattle.network.specs.declared.Request.{Request}
use Rattle.network.specs.Reduce.{asking}
use Rattle.area.specs.Station.{Table}
use Rattle.area.specs.Books.{Books, books}
use Rattle.area.specs.Load.{LoadInput, table_of}
use Rattle.ledger.specs.Entries.{opened}
use Rattle.cases.specs.Document01.{four_nodes, asks}
use Rattle.cases.specs.HoldTimes.{links_h}

abbrev pub input_h : List ℕ → LoadInput
input_h hold_times = four_nodes links_h hold_times

abbrev pub table_h : List ℕ → Table
table_h hold_times = table_of (input_h hold_times)

abbrev pub books_h : List ℕ → Books
books_h hold_times = books (opened (input_h hold_times))

-- ---- paths beside the two of the cases
-- one link; three, from 0 to 1 by nodes 2 and 3; and a walk from 0 to 3 that passes node 3 on its way, so no path
abbrev pub one_h : List ℕ
one_h = 0 ∷ []

abbrev pub three_h : List ℕ
three_h = 2 ∷ 3 ∷ 4 ∷ []

abbrev pub round_h : List ℕ
round_h = 2 ∷ 3 ∷ 4 ∷ 1 ∷ []

-- ---- requests: from 0 to 3 and from 0 to 1, and one that is granted without hold times alone
abbrev pub to_3 : Request
to_3 = asks 1 10 20 8

abbrev pub to_1 : Request
to_1 = asking 0 1 1 10 20 8

abbrev pub short_h : Request
short_h = asks 1 4 20 8
