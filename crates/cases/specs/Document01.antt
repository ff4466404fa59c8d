-- Document 01's worked cases M1 to M11: the areas, the calls, and the replies that it gives for them. What a case says
-- is what the reply means, by specs/Meaning.antt of `rules`, with no algorithm in it. A case without its reply is a row, of
-- a type of the code, so that the table of the program `worked_cases`, which makes the calls, is held to this list.
-- Assumes nothing.
use Rattle.std.specs.Prelude.{ℕ, ◌+◌, ◌*◌, ◌≡◌, List, [], ◌∷◌, map, length, get_or, replicate}
use Rattle.network.specs.Limits.{path_words, work_words}
use Rattle.network.specs.Net.{sum}
use Rattle.network.specs.Scale.{Overqualified}
use Rattle.network.specs.Problem.{Distance}
use Rattle.network.specs.Lists.{All}
use Rattle.network.specs.declared.Request.{Request}
use Rattle.network.specs.declared.answer.Reduction.TheVariants.{One, Two}
use Rattle.network.specs.Reduce.{delay_bound, cost_bound, asking}
use Rattle.area.specs.Layout.{area_words}
use Rattle.area.specs.Load.{LoadInput, input_of, load_answer, loaded}
use Rattle.area.specs.Refusals.{refuses, grants}
use Rattle.rules.specs.Replies.{PathReply, granting}
use Rattle.rules.specs.Calls.{booked}
use Rattle.rules.specs.Meaning.{net_for, Quoted, Admitted}
use Rattle.cases.specs.declared.Ground.{Ground}
use Rattle.cases.specs.declared.Ground.TheVariants.{OnA, AfterM8, OnNone, OnB}
use Rattle.cases.specs.declared.Asked.{Asked}
use Rattle.cases.specs.declared.Asked.TheVariants.{Quote, Admission}
use Rattle.cases.specs.declared.Row.{Row}

-- ---- the areas
-- a link's five words: from, to, delay, cost, capacity
abbrev pub links_a : List ℕ
links_a =
    0 ∷ 1 ∷ 2 ∷ 5 ∷ 10
    ∷ 1 ∷ 2 ∷ 2 ∷ 5 ∷ 10
    ∷ 2 ∷ 3 ∷ 2 ∷ 5 ∷ 10
    ∷ 0 ∷ 3 ∷ 9 ∷ 1 ∷ 10
    ∷ []

abbrev pub links_b : List ℕ
links_b =
    1 ∷ 2 ∷ 0 ∷ 1 ∷ 5
    ∷ 2 ∷ 1 ∷ 0 ∷ 1 ∷ 5
    ∷ 1 ∷ 3 ∷ 1 ∷ 1 ∷ 5
    ∷ 0 ∷ 1 ∷ 1 ∷ 1 ∷ 5
    ∷ []

-- an area of zeros, as short as it may be
abbrev pub blank : List ℕ
blank = replicate area_words 0

-- four nodes with these links and these hold times
abbrev pub four_nodes : List ℕ → List ℕ → LoadInput
four_nodes links hold_times = input_of 4 links hold_times

-- document 01's nets have no hold times
abbrev pub none_held : List ℕ
none_held = replicate 4 0

abbrev pub unheld : List ℕ → LoadInput
unheld links = four_nodes links none_held

-- the area of zeros, loaded with four nodes and the links
unfoldable pub area : List ℕ → List ℕ
unfolding loaded
area links = loaded blank (unheld links)

unfoldable pub net_a : List ℕ
unfolding area
net_a = area links_a

unfoldable pub net_b : List ℕ
unfolding area
net_b = area links_b

-- no links
unfoldable pub bare : List ℕ
unfolding area
bare = area []

-- Load accepts each of the three
abbrev pub AreasLoaded : Type 0
AreasLoaded = All (λ links. load_answer blank (unheld links) ≡ grants tt) (links_a ∷ links_b ∷ [] ∷ [])

-- ---- the calls
-- from 0 to 3: the units, the bounds of delay and cost, the coefficient
abbrev pub asks : ℕ → ℕ → ℕ → ℕ → Request
asks b d c f = asking 0 3 b d c f

abbrev pub m2 : Request
m2 = asks 1 8 20 6

abbrev pub m3 : Request
m3 = asks 1 8 20 8

-- M8's admission is of 4 units by M3; which circuit number it has, document 01 leaves open
abbrev pub m8 : Request
m8 = asks 4 8 20 8

abbrev pub m8_circuit : ℕ
m8_circuit = 1

abbrev pub m11 : Request
m11 = asks 1 2 8 4

-- the path of net A by three links
abbrev pub three : List ℕ
three = 0 ∷ 1 ∷ 2 ∷ []

-- the reply that document 01 gives most often
abbrev pub by_three : PathReply
by_three = granting One 6 15 three

-- net A after M8's admission, with its reply
unfoldable pub net_a4 : List ℕ
unfolding net_a booked
net_a4 = booked net_a m8_circuit m8.terms.units by_three

-- ---- the cases
-- the area that a case stands on
unfoldable pub area_in : Ground → List ℕ
unfolding net_a net_a4 bare net_b
area_in OnA = net_a
area_in AfterM8 = net_a4
area_in OnNone = bare
area_in OnB = net_b

-- a case's number in document 01, its area and the call; and the reply
pub record Case : Type 0 where
  pub row : Row
  pub reply : PathReply

abbrev pub case : ℕ → Ground → Asked → PathReply → Case
case m k q a = record { row = record { number = m; stands = k; asked = q }; reply = a }

unfoldable pub cases : List Case
cases =
    case 1 OnA (Quote (asks 1 8 20 5)) (refuses 10)
    ∷ case 2 OnA (Quote m2) by_three
    ∷ case 3 OnA (Quote m3) by_three
    ∷ case 4 OnA (Quote (asks 1 8 15 8)) (granting Two 6 15 three)
    ∷ case 5 OnA (Quote (asks 1 8 14 8)) (refuses 10)
    ∷ case 6 OnA (Quote (asks 1 9 20 8)) by_three
    ∷ case 7 OnA (Quote (asks 10 8 20 8)) by_three
    ∷ case 7 OnA (Quote (asks 11 8 20 8)) (refuses 9)
    ∷ case 8 OnA (Admission m8_circuit m8) by_three
    ∷ case 8 AfterM8 (Quote (asks 6 8 20 8)) by_three
    ∷ case 8 AfterM8 (Quote (asks 7 8 20 8)) (refuses 10)
    ∷ case 8 AfterM8 (Quote (asks 7 9 20 8)) (granting One 9 1 (3 ∷ []))
    ∷ case 9 OnA (Quote (asking 0 0 1 8 20 8)) (refuses 8)
    ∷ case 10 OnNone (Quote (asks 1 8 20 8)) (refuses 9)
    ∷ case 11 OnB (Quote m11) (granting One 2 2 (3 ∷ 2 ∷ []))
    ∷ []

-- with enough work memory and path buffer, the reply is one that the call may give
abbrev pub Holds : List ℕ → Asked → PathReply → Type 0
Holds w (Quote r) a = Quoted w work_words path_words r a
Holds w (Admission c r) a = Admitted w work_words path_words c r a

abbrev pub CaseHolds : Case → Type 0
CaseHolds c = Holds (area_in c.row.stands) c.row.asked c.reply

-- what stands for a case past the last, and is none of document 01's
abbrev pub no_case : Case
no_case = case 0 OnNone (Quote (asking 0 0 0 0 0 0)) (refuses 0)

-- case i of the list, counted from 0
unfoldable pub case_at : ℕ → Case
unfolding cases
case_at i = get_or cases i no_case

-- ---- the cases as rows
abbrev pub rows : List Row
rows = map (λ (c : Case). c.row) cases

-- what a row's numbers are: of its area and of its call, with an admission's circuit number, and of the request in document
-- 01's order: s, t, b, D, C, coefficient
abbrev pub ground_number : Ground → ℕ
ground_number OnA = 0
ground_number AfterM8 = 1
ground_number OnNone = 2
ground_number OnB = 3

abbrev pub request_numbers : Request → List ℕ
request_numbers r = r.source ∷ r.target ∷ r.terms.units ∷ delay_bound r ∷ cost_bound r ∷ r.terms.coefficient ∷ []

-- 0 for a quote, 1 for an admission; a quote has no circuit number
abbrev pub asked_numbers : Asked → List ℕ
asked_numbers (Quote r) = 0 ∷ 0 ∷ request_numbers r
asked_numbers (Admission c r) = 1 ∷ c ∷ request_numbers r

-- ---- the figures that document 01 gives beside the replies
-- Theorem 2's condition for a request on net A and the path by three links, at distance 1
abbrev pub Condition : Request → Type 0
Condition r = Overqualified (r.terms.coefficient * 1) (cost_bound r) (length three) (sum (net_for net_a r).cost three)

-- the distance, the path's cost, and the two sides of the condition
pub record Sides (r : Request) (left right : ℕ) : Type 0 where
  pub distance : Distance (net_for net_a r) 0 3 1
  pub cost : sum (net_for net_a r).cost three ≡ 15
  pub left_side : sum (net_for net_a r).cost three * (r.terms.coefficient * 1) + length three * cost_bound r ≡ left
  pub right_side : (r.terms.coefficient * 1 + 1) * cost_bound r ≡ right

pub record Margins : Type 0 where
  -- M2 is granted though 150 is over 140
  pub m2_sides : Sides m2 150 140
  pub m2_over : Condition m2 → ⊥
  -- M3 meets the condition with equality
  pub m3_sides : Sides m3 180 180
  pub m3_met : Condition m3
  -- M11's x is 8
  pub m11_distance : Distance (net_for net_b m11) 0 3 2
  pub m11_x : m11.terms.coefficient * 2 ≡ 8
