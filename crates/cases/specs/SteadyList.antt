-- Cases of the steady circuit list, by hand, on net A; docs/steady-list.md has the calculation of each, and S5, a full area, is
-- tried by tests/c/steady_list.c alone. A case is a list of admissions and releases with the words of circuits after each of
-- them, an area that every call refuses, or one that is well formed. Each call means that reply and that area; the area is the
-- one that the call's definition leaves.
-- Assumes nothing.
use Rattle.std.specs.Prelude.{ℕ, suc, ◌+◌, ◌≤◌, ◌<◌, ◌≡◌, List, [], ◌∷◌, ◌++◌, map, length, get_or, set, replicate}
use Rattle.std.proofs.lemmas.List.Edits.{sets}
use Rattle.network.specs.Limits.{path_words, work_words}
use Rattle.network.specs.Lists.{joined}
use Rattle.network.specs.declared.Request.{Request}
use Rattle.network.specs.declared.answer.Reduction.TheVariants.{One}
use Rattle.network.specs.Reduce.{asking}
use Rattle.area.specs.Layout.{area_words}
use Rattle.area.specs.Station.{place, held_words, station}
use Rattle.area.specs.Books.{free}
use Rattle.area.specs.Held.{ListsHeld}
use Rattle.area.specs.Formed.{WellFormed}
use Rattle.area.specs.Load.{load_answer, loaded}
use Rattle.area.specs.Reads.{free_answer, ListMeans}
use Rattle.area.specs.Refusals.{refuses, grants}
use Rattle.rules.specs.Replies.{PathReply, granting, releases}
use Rattle.rules.specs.Calls.{booked, cleared}
use Rattle.rules.specs.Meaning.{Admitted, AreaBooked, QuoteMeans, AdmissionMeans, ReleaseMeans}
use Rattle.cases.specs.Document01.{links_a, unheld, asks, three}

-- ---- net A, loaded into an area whose every word is 9
abbrev pub nines : List ℕ
nines = replicate area_words 9

unfoldable pub net_a9 : List ℕ
unfolding loaded
net_a9 = loaded nines (unheld links_a)

abbrev pub NinesLoaded : Type 0
NinesLoaded = load_answer nines (unheld links_a) ≡ grants tt

-- ---- the calls
-- an admission of a circuit number, with its reply; or a release that is granted
pub data Call : Type 0 where
  admits : (number : ℕ) → Request → PathReply → Call
  frees : (number : ℕ) → Call

-- a call, and the words of each circuit that is held after it, in the order of their places
pub record Step : Type 0 where
  pub call : Call
  pub circuits : List (List ℕ)

-- the circuits' 34 words
abbrev pub two : List ℕ
two = 2 ∷ 3 ∷ 1 ∷ 3 ∷ replicate 30 0

abbrev pub five : List ℕ
five = 5 ∷ 2 ∷ 2 ∷ 1 ∷ 2 ∷ replicate 29 0

abbrev pub seven : List ℕ
seven = 7 ∷ 4 ∷ 3 ∷ 0 ∷ 1 ∷ 2 ∷ replicate 28 0

-- the admission of each, and the release of a number
abbrev admit_2 : List (List ℕ) → Step
admit_2 l = record { call = admits 2 (asks 3 9 1 1) (granting One 9 1 (3 ∷ [])); circuits = l }

abbrev admit_5 : List (List ℕ) → Step
admit_5 l = record { call = admits 5 (asking 1 3 2 4 10 8) (granting One 4 10 (1 ∷ 2 ∷ [])); circuits = l }

abbrev admit_7 : List (List ℕ) → Step
admit_7 l = record { call = admits 7 (asks 4 8 20 8) (granting One 6 15 three); circuits = l }

abbrev release : ℕ → List (List ℕ) → Step
release c l = record { call = frees c; circuits = l }

-- the area after a call with that reply, and after a list of them
abbrev pub area_left : List ℕ → Call → List ℕ
area_left w (admits c r a) = booked w c r.terms.units a
area_left w (frees c) = cleared w c releases

abbrev walked : List ℕ → List Step → List ℕ
walked w [] = w
walked w (s ∷ l) = walked (area_left w s.call) l

-- ---- the areas
-- S1: admitted in the order 7, 2, 5; and the area at its end
abbrev in_turn : List Step
in_turn = admit_7 (seven ∷ []) ∷ admit_2 (two ∷ seven ∷ []) ∷ admit_5 (two ∷ five ∷ seven ∷ []) ∷ []

unfoldable pub net_s1 : List ℕ
unfolding net_a9 booked cleared
net_s1 = walked net_a9 in_turn

-- that area with other words in place j and in the place after it
abbrev exchanged : ℕ → List ℕ → List ℕ → List ℕ
exchanged j a b = sets (sets net_s1 (place j) a) (place (suc j)) b

-- ---- the cases
-- a case's number in docs/steady-list.md, and what it is about
pub data ListCase : Type 0 where
  walk : (number : ℕ) → (stands : List ℕ) → List Step → ListCase
  refused : (number : ℕ) → (stands : List ℕ) → ListCase
  formed : (number : ℕ) → (stands : List ℕ) → ListCase
  -- S1's area with 1 in any one of n words from word i on, and with anything in all of them
  unclear : (number : ℕ) → (i n : ℕ) → ListCase
  behind : (number : ℕ) → (i n : ℕ) → ListCase

-- those that are computed
unfoldable pub computed_cases : List ListCase
computed_cases =
    walk 1 net_a9 in_turn
    -- releases, and a place used again
    ∷ walk 2 net_s1
    (release 5 (two ∷ seven ∷ [])
    ∷ release 2 (seven ∷ [])
    ∷ release 7 []
    ∷ admit_2 (two ∷ [])
    ∷ [])
    -- other ways to the bookings after the first of these
    ∷ walk 3 net_a9 (admit_2 (two ∷ []) ∷ admit_7 (two ∷ seven ∷ []) ∷ [])
    ∷ walk 3 net_a9
    (admit_7 (seven ∷ []) ∷ admit_5 (five ∷ seven ∷ []) ∷ admit_2 (two ∷ five ∷ seven ∷ []) ∷ release 5 (two ∷ seven ∷ []) ∷ [])
    ∷ walk 3 net_a9
    (admit_5 (five ∷ []) ∷ admit_2 (two ∷ five ∷ []) ∷ release 5 (two ∷ []) ∷ admit_7 (two ∷ seven ∷ []) ∷ [])
    ∷ walk 3 net_a9
    (admit_7 (seven ∷ []) ∷ admit_2 (two ∷ seven ∷ []) ∷ release 7 (two ∷ []) ∷ admit_7 (two ∷ seven ∷ []) ∷ [])
    -- the other orders in which the three can be admitted
    ∷ walk 3 net_a9 (admit_7 (seven ∷ []) ∷ admit_5 (five ∷ seven ∷ []) ∷ admit_2 (two ∷ five ∷ seven ∷ []) ∷ [])
    ∷ walk 3 net_a9 (admit_5 (five ∷ []) ∷ admit_7 (five ∷ seven ∷ []) ∷ admit_2 (two ∷ five ∷ seven ∷ []) ∷ [])
    ∷ walk 3 net_a9 (admit_5 (five ∷ []) ∷ admit_2 (two ∷ five ∷ []) ∷ admit_7 (two ∷ five ∷ seven ∷ []) ∷ [])
    ∷ walk 3 net_a9 (admit_2 (two ∷ []) ∷ admit_7 (two ∷ seven ∷ []) ∷ admit_5 (two ∷ five ∷ seven ∷ []) ∷ [])
    ∷ walk 3 net_a9 (admit_2 (two ∷ []) ∷ admit_5 (two ∷ five ∷ []) ∷ admit_7 (two ∷ five ∷ seven ∷ []) ∷ [])
    -- in another order, and a number twice
    ∷ refused 4 (exchanged 0 five two)
    ∷ refused 4 (exchanged 1 seven five)
    ∷ refused 4 (set net_s1 1317 2)
    ∷ refused 4 (set net_s1 1317 7)
    -- but not another number in between
    ∷ formed 4 (set net_s1 1317 3)
    ∷ formed 4 (set net_s1 1317 6)
    ∷ []

-- those of any one word or any words: each unused path word of circuits 2, 5 and 7, and the words behind the last circuit
abbrev pub word_cases : List ListCase
word_cases = unclear 4 1287 30 ∷ unclear 4 1322 29 ∷ unclear 4 1357 28 ∷ behind 4 1385 2074 ∷ []

abbrev pub list_cases : List ListCase
list_cases = computed_cases ++ word_cases

-- ---- what they say
-- a call on w has its reply, and w' is the area after it
abbrev pub CallHolds : List ℕ → Call → List ℕ → Type 0
CallHolds w (admits c r a) w' = Admitted w work_words path_words c r a × AreaBooked w c r.terms.units a w'
CallHolds w (frees c) w' = ReleaseMeans w c releases w'

-- and that area's words of circuits are these, which begin with the numbers that a listing gives
pub record StepHolds (w : List ℕ) (s : Step) (w' : List ℕ) : Type 0 where
  pub called : CallHolds w s.call w'
  pub words : held_words w' ≡ joined s.circuits
  pub listing : ListsHeld (station w').held (map (λ c. get_or c 0 0) s.circuits)

abbrev pub WalkHolds : List ℕ → List Step → Type 0
WalkHolds w [] = Unit
WalkHolds w (s ∷ l) = StepHolds w s (area_left w s.call) × WalkHolds (area_left w s.call) l

-- quote, admission, release, listing and free units refuse with 5, whatever else they are given, and no word changes
pub record RefusedWithFive (w : List ℕ) : Type 0 where
  pub quote : (work : ℕ) (l : List ℕ) (r : Request) → QuoteMeans w work l r (refuses 5) l
  pub admission : (work : ℕ) (l : List ℕ) (c : ℕ) (r : Request) → AdmissionMeans w work l c r (refuses 5) l w
  pub release : (c : ℕ) → ReleaseMeans w c (refuses 5) w
  pub list : (l : List ℕ) → ListMeans w l (refuses 5) l
  pub free_units : (i : ℕ) → free_answer w i ≡ refuses 5

-- w has the words of v but, it may be, in n words from word i on
pub record SameBut (i n : ℕ) (v w : List ℕ) : Type 0 where
  pub before : (j : ℕ) → j < i → get_or w j 0 ≡ get_or v j 0
  pub behind : (j : ℕ) → i + n ≤ j → get_or w j 0 ≡ get_or v j 0
  pub long : length w ≡ length v

abbrev pub ListCaseHolds : ListCase → Type 0
ListCaseHolds (walk k w l) = WalkHolds w l
ListCaseHolds (refused k w) = RefusedWithFive w
ListCaseHolds (formed k w) = WellFormed w
ListCaseHolds (unclear k i n) = (j : ℕ) → i ≤ j → j < i + n → RefusedWithFive (set net_s1 j 1)
ListCaseHolds (behind k i n) = (w : List ℕ) → SameBut i n net_s1 w → WellFormed w

-- ---- the figures beside them: the free units of links 0 to 3 at the end of S1, and of links 1 and 2 when circuit 5 is released
pub record ListFigures : Type 0 where
  pub free_0 : free (station net_s1) 0 ≡ 6
  pub free_1 : free (station net_s1) 1 ≡ 4
  pub free_2 : free (station net_s1) 2 ≡ 4
  pub free_3 : free (station net_s1) 3 ≡ 7
  pub freed_1 : free (station (cleared net_s1 5 releases)) 1 ≡ 6
  pub freed_2 : free (station (cleared net_s1 5 releases)) 2 ≡ 6
