-- Cases of bounds of 0, by hand, on net A and on a net of free lines; docs/free-lines.md has the calculation of each. What a
-- case says is what document 01's cases say, with no algorithm in it.
-- Assumes nothing.
use Rattle.std.specs.Prelude.{ℕ, ◌≡◌, List, [], ◌∷◌, length}
use Rattle.network.specs.Net.{sum}
use Rattle.network.specs.Scale.{scaled, Overqualified}
use Rattle.network.specs.Problem.{Distance}
use Rattle.network.specs.declared.Request.{Request}
use Rattle.network.specs.declared.answer.Reduction.TheVariants.{One, Two}
use Rattle.network.specs.Reduce.{asking}
use Rattle.area.specs.Load.{load_answer}
use Rattle.area.specs.Refusals.{refuses, grants}
use Rattle.rules.specs.Replies.{PathReply, granting}
use Rattle.rules.specs.Calls.{booked}
use Rattle.rules.specs.Meaning.{net_for}
use Rattle.cases.specs.declared.Asked.{Asked}
use Rattle.cases.specs.declared.Asked.TheVariants.{Quote, Admission}
use Rattle.cases.specs.Document01.{net_a, area, blank, unheld, asks, Holds}

-- ---- the net of free lines
-- From 0 to 3 by 1 and 2: free lines with a delay (links 0 and 2) or paid ones without (4 and 5), and in between a line that
-- is both free and without a delay (1). Link 3 goes straight and has both, so the distance is 1.
abbrev pub links_f : List ℕ
links_f =
    0 ∷ 1 ∷ 3 ∷ 0 ∷ 5
    ∷ 1 ∷ 2 ∷ 0 ∷ 0 ∷ 2
    ∷ 2 ∷ 3 ∷ 3 ∷ 0 ∷ 5
    ∷ 0 ∷ 3 ∷ 4 ∷ 1 ∷ 10
    ∷ 0 ∷ 1 ∷ 0 ∷ 5 ∷ 10
    ∷ 2 ∷ 3 ∷ 0 ∷ 5 ∷ 10
    ∷ []

unfoldable pub net_f : List ℕ
unfolding area
net_f = area links_f

abbrev pub FreeNetLoaded : Type 0
FreeNetLoaded = load_answer blank (unheld links_f) ≡ grants tt

-- the path of free links, and the one of links without a delay
abbrev pub free_links : List ℕ
free_links = 0 ∷ 1 ∷ 2 ∷ []

abbrev pub instant_links : List ℕ
instant_links = 4 ∷ 1 ∷ 5 ∷ []

abbrev pub by_free : PathReply
by_free = granting One 6 0 free_links

-- ---- the calls
abbrev pub f4 : Request
f4 = asks 1 10 0 8

abbrev pub f8 : Request
f8 = asks 1 0 10 8

-- both units of link 1 are booked by case 7
abbrev pub f7 : Request
f7 = asks 2 10 0 8

abbrev pub f7_circuit : ℕ
f7_circuit = 1

unfoldable pub net_f7 : List ℕ
unfolding net_f booked
net_f7 = booked net_f f7_circuit f7.terms.units by_free

-- ---- the cases
-- a case's number in docs/free-lines.md, its area, the call and the reply
pub record FreeCase : Type 0 where
  pub number : ℕ
  pub stands : List ℕ
  pub asked : Asked
  pub reply : PathReply

abbrev case : ℕ → List ℕ → Asked → PathReply → FreeCase
case k w q a = record { number = k; stands = w; asked = q; reply = a }

unfoldable pub free_cases : List FreeCase
free_cases =
    -- net A has no free link, and none without a delay
    case 1 net_a (Quote (asks 1 0 20 8)) (refuses 10)
    ∷ case 2 net_a (Quote (asks 1 9 0 8)) (refuses 10)
    ∷ case 3 net_a (Quote (asks 1 0 0 8)) (refuses 10)
    -- C = 0: three free links, though one paid link goes straight; D too small for them; too many units for link 1
    ∷ case 4 net_f (Quote f4) by_free
    ∷ case 5 net_f (Quote (asks 1 5 0 8)) (refuses 10)
    ∷ case 6 net_f (Quote (asks 3 10 0 8)) (refuses 10)
    -- link 1 full; with one tariff point the paid link
    ∷ case 7 net_f (Admission f7_circuit f7) by_free
    ∷ case 7 net_f7 (Quote f4) (refuses 10)
    ∷ case 7 net_f7 (Quote (asks 1 10 1 8)) (granting One 4 1 (3 ∷ []))
    -- D = 0: by problem one; by problem two where x is too coarse for problem one; C too small
    ∷ case 8 net_f (Quote f8) (granting One 0 10 instant_links)
    ∷ case 9 net_f (Quote (asks 1 0 10 5)) (granting Two 0 10 instant_links)
    ∷ case 10 net_f (Quote (asks 1 0 9 8)) (refuses 10)
    -- both 0
    ∷ case 11 net_f (Quote (asking 1 2 1 0 0 1)) (granting One 0 0 (1 ∷ []))
    ∷ case 12 net_f (Quote (asks 1 0 0 8)) (refuses 10)
    ∷ []

abbrev pub FreeCaseHolds : FreeCase → Type 0
FreeCaseHolds c = Holds c.stands c.asked c.reply

-- ---- the figures beside them
pub record FreeFigures : Type 0 where
  -- case 4: the paid link alone gives the distance, so x is 8; the free path meets the inequality as 0 ≤ 0, the paid link does
  -- not, and is scaled to x + 1
  pub f4_distance : Distance (net_for net_f f4) 0 3 1
  pub f4_free : Overqualified 8 0 (length free_links) (sum (net_for net_f f4).cost free_links)
  pub f4_paid : Overqualified 8 0 1 1 → ⊥
  pub f4_scaled : scaled 8 0 1 ≡ 9
  -- cases 8 and 9: the two paid links are scaled to 4 each at x = 8, and to 3 each at x = 5
  pub f8_scaled : scaled 8 10 5 ≡ 4
  pub f9_scaled : scaled 5 10 5 ≡ 3
