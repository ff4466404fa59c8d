-- Cases of hold times, by hand, on one net with three lists of hold times; docs/hold-times.md has the calculation of each. What a
-- case says is what document 01's cases say, with no algorithm in it.
-- Assumes nothing.
use Rattle.std.specs.Prelude.{ℕ, ◌+◌, ◌≡◌, List, [], ◌∷◌, length}
use Rattle.network.specs.Lists.{All}
use Rattle.network.specs.Net.{sum}
use Rattle.network.specs.Scale.{scaled, Overqualified}
use Rattle.network.specs.declared.Request.{Request}
use Rattle.network.specs.declared.answer.Reduction.TheVariants.{One, Two}
use Rattle.network.specs.Reduce.{asking}
use Rattle.area.specs.Books.{path_delay}
use Rattle.area.specs.Load.{load_answer, loaded}
use Rattle.area.specs.Refusals.{refuses, grants}
use Rattle.area.specs.Station.{table_in}
use Rattle.rules.specs.Replies.{PathReply, granting}
use Rattle.rules.specs.Calls.{booked}
use Rattle.rules.specs.Meaning.{net_for}
use Rattle.cases.specs.declared.Asked.{Asked}
use Rattle.cases.specs.declared.Asked.TheVariants.{Quote, Admission}
use Rattle.cases.specs.Document01.{four_nodes, none_held, blank, asks, Holds}

-- ---- the net
-- from 0 to 3 by node 1, links 0 and 1, or by node 2, links 2 and 3; and back by links 4 and 5
abbrev pub links_h : List ℕ
links_h =
    0 ∷ 1 ∷ 2 ∷ 5 ∷ 10
    ∷ 1 ∷ 3 ∷ 2 ∷ 5 ∷ 10
    ∷ 0 ∷ 2 ∷ 3 ∷ 6 ∷ 10
    ∷ 2 ∷ 3 ∷ 2 ∷ 3 ∷ 10
    ∷ 3 ∷ 1 ∷ 0 ∷ 1 ∷ 10
    ∷ 1 ∷ 0 ∷ 0 ∷ 1 ∷ 10
    ∷ []

-- ---- the hold times of nodes 0 to 3: those of nodes 1 and 2, and the same with nodes 0 and 3 held as long as may be
abbrev pub inner_held : List ℕ
inner_held = 0 ∷ 5 ∷ 1 ∷ 0 ∷ []

abbrev pub all_held : List ℕ
all_held = 1000000 ∷ 5 ∷ 1 ∷ 1000000 ∷ []

unfoldable pub net_h : List ℕ → List ℕ
unfolding loaded
net_h hold_times = loaded blank (four_nodes links_h hold_times)

abbrev pub HoldNetsLoaded : Type 0
HoldNetsLoaded = All (λ hold_times. load_answer blank (four_nodes links_h hold_times) ≡ grants tt) (none_held ∷ inner_held ∷ all_held ∷ [])

-- ---- the two paths from 0 to 3
abbrev pub by_node_1 : List ℕ
by_node_1 = 0 ∷ 1 ∷ []

abbrev pub by_node_2 : List ℕ
by_node_2 = 2 ∷ 3 ∷ []

-- case 9 books all units of the second
abbrev pub h9 : Request
h9 = asks 10 10 20 8

abbrev pub h9_circuit : ℕ
h9_circuit = 1

unfoldable pub net_h9 : List ℕ
unfolding net_h booked
net_h9 = booked (net_h inner_held) h9_circuit h9.terms.units (granting One 6 9 by_node_2)

-- ---- the cases
-- a case's number in docs/hold-times.md, its area, the call and the reply
pub record HoldCase : Type 0 where
  pub number : ℕ
  pub stands : List ℕ
  pub asked : Asked
  pub reply : PathReply

abbrev case : ℕ → List ℕ → Asked → PathReply → HoldCase
case k w q a = record { number = k; stands = w; asked = q; reply = a }

unfoldable pub hold_cases : List HoldCase
hold_cases =
    -- the hold time of an inner node makes a path miss D
    case 1 (net_h none_held) (Quote (asks 1 4 20 8)) (granting One 4 10 by_node_1)
    ∷ case 1 (net_h inner_held) (Quote (asks 1 4 20 8)) (refuses 10)
    -- those of s and t make no difference; that of node 3 counts where it is inner
    ∷ case 2 (net_h all_held) (Quote (asks 1 4 20 8)) (refuses 10)
    ∷ case 2 (net_h all_held) (Quote (asks 1 8 10 1)) (granting Two 6 9 by_node_2)
    ∷ case 2 (net_h all_held) (Quote (asks 1 10 20 8)) (granting One 6 9 by_node_2)
    ∷ case 2 (net_h all_held) (Quote (asking 0 1 1 2 20 8)) (granting One 2 5 (0 ∷ []))
    ∷ case 2 (net_h inner_held) (Quote (asking 2 1 1 2 20 8)) (granting One 2 4 (3 ∷ 4 ∷ []))
    ∷ case 2 (net_h all_held) (Quote (asking 2 1 1 1000002 20 8)) (granting One 1000002 4 (3 ∷ 4 ∷ []))
    ∷ case 2 (net_h all_held) (Quote (asking 2 1 1 1000001 20 8)) (refuses 10)
    -- a hold time turns problem one's answer into problem two's
    ∷ case 3 (net_h none_held) (Quote (asks 1 8 10 1)) (granting One 4 10 by_node_1)
    ∷ case 3 (net_h inner_held) (Quote (asks 1 8 10 1)) (granting Two 6 9 by_node_2)
    -- it changes which path is best
    ∷ case 4 (net_h none_held) (Quote (asks 1 10 20 8)) (granting One 4 10 by_node_1)
    ∷ case 4 (net_h inner_held) (Quote (asks 1 10 20 8)) (granting One 6 9 by_node_2)
    -- D is the path's delay, and one less
    ∷ case 5 (net_h inner_held) (Quote (asks 1 6 20 8)) (granting One 6 9 by_node_2)
    ∷ case 5 (net_h inner_held) (Quote (asks 1 5 20 8)) (refuses 10)
    -- problem two scales each link's delay with its hold time
    ∷ case 7 (net_h none_held) (Quote (asks 1 6 9 8)) (granting Two 5 9 by_node_2)
    ∷ case 7 (net_h inner_held) (Quote (asks 1 6 9 8)) (refuses 10)
    ∷ case 7 (net_h inner_held) (Quote (asks 1 7 9 8)) (granting Two 6 9 by_node_2)
    -- D = 0
    ∷ case 8 (net_h none_held) (Quote (asking 3 0 1 0 20 8)) (granting One 0 2 (4 ∷ 5 ∷ []))
    ∷ case 8 (net_h inner_held) (Quote (asking 3 0 1 0 20 8)) (refuses 10)
    ∷ case 8 (net_h inner_held) (Quote (asking 3 0 1 5 20 8)) (granting One 5 2 (4 ∷ 5 ∷ []))
    ∷ case 8 (net_h all_held) (Quote (asking 3 1 1 0 20 8)) (granting One 0 1 (4 ∷ []))
    -- an admission leaves the hold times
    ∷ case 9 (net_h inner_held) (Admission h9_circuit h9) (granting One 6 9 by_node_2)
    ∷ case 9 net_h9 (Quote (asks 1 10 20 8)) (granting One 9 10 by_node_1)
    ∷ case 9 net_h9 (Quote (asks 1 8 20 8)) (refuses 10)
    ∷ []

abbrev pub HoldCaseHolds : HoldCase → Type 0
HoldCaseHolds c = Holds c.stands c.asked c.reply

-- ---- the figures beside them
pub record HoldFigures : Type 0 where
  -- the delays of the two paths: without hold times, and with those of nodes 1 and 2
  pub unheld_1 : path_delay (table_in (net_h none_held)) by_node_1 ≡ 4
  pub unheld_2 : path_delay (table_in (net_h none_held)) by_node_2 ≡ 5
  pub held_1 : path_delay (table_in (net_h inner_held)) by_node_1 ≡ 9
  pub held_2 : path_delay (table_in (net_h inner_held)) by_node_2 ≡ 6
  -- case 3: link 2 is scaled with its hold time as one number
  pub h3_scaled : scaled 2 8 4 ≡ 1
  pub h3_apart : scaled 2 8 3 + scaled 2 8 1 ≡ 2
  -- case 7: the inequality for delay is missed by D = 6 and met by D = 7
  pub h7_missed : Overqualified 16 6 (length by_node_2) (sum (net_for (net_h inner_held) (asks 1 6 9 8)).delay by_node_2) → ⊥
  pub h7_met : Overqualified 16 7 (length by_node_2) (sum (net_for (net_h inner_held) (asks 1 7 9 8)).delay by_node_2)
