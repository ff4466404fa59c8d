-- The cases of the steady circuit list hold. The replies, the circuits and their words are computed for all walks at once, by the
-- station and not by the words of areas; since the unused path words of a well-formed area are 0, its words of circuits are those
-- of its station. What the calls mean follows by proofs/Meaning.antt and proofs/Bookings.antt of `rules`.
-- Assumes nothing.
use Prim.Native.Nat.{ℕ, suc, ◌+◌, ◌*◌, ◌-◌, ◌≤◌, ◌<◌}
use mathlib.Core.Path.{◌≡◌, refl, sym, ap, ap₂, ◌∙◌, subst}
use mathlib.Core.Bool.{Bool, true, false, true≢false}
use mathlib.Core.List.{List, [], ◌∷◌, ◌++◌, map, head-eq_of_cons-eq, tail-eq_of_cons-eq}
use mathlib.Core.Logic.{inl}
use native.Mathlib.Omega.{arith}
use lib.Dec.{leb}
use lib.ListN.{length, get_or, set}
use lib.Seq.{get_or-set_same, get_or-set_other}
use Rattle.network.specs.Limits.{link_words, path_words, work_words}
use Rattle.network.specs.Lists.{All, joined}
use Rattle.network.specs.Loops.{every, iter, first}
use Rattle.network.specs.Scale.{scaled}
use Rattle.network.specs.Cut.{noted, follow}
use Rattle.network.specs.Reduce.{problem_one, problem_two}
use Rattle.network.specs.declared.Request.{Request}
use Rattle.network.proofs.Loops.{every_all}
use Rattle.network.proofs.Tests.{by_bool}
use Rattle.search.specs.ebf.Table.{cell, cells, filled, initialised, improved, relaxed, offered, column, round, rounds, ebf}
use Rattle.search.specs.ebf.Trace.{step_back, place_back, traced}
use Rattle.search.specs.ebf.Solve.{path_in, answer_in, solve_in, solve}
use Rattle.search.specs.Distance.{spread, layer, distance}
use Rattle.search.specs.Heuristic.{tried, search}
use Rattle.search.specs.Result.{outcome}
use Rattle.area.specs.Layout.{area_words, circuit_words, first_circuit, first_hold, first_link, path_start}
use Rattle.area.specs.Station.{Circuit, Station, words_at, place, circuit_of, words_in, held_in, held_words, table_in, station}
use Rattle.area.specs.Books.{numbers, books, net}
use Rattle.area.specs.Checks.{◌unless◌, checked}
use Rattle.area.specs.Held.{ListsHeld}
use Rattle.area.specs.Formed.{WellFormed, rises, well_formed}
use Rattle.area.specs.Load.{load_answer}
use Rattle.area.specs.Moves.{words_of, with_circuit, without_number}
use Rattle.area.specs.Reads.{free_answer}
use Rattle.area.specs.Refusals.{refuses, grants}
use Rattle.area.proofs.Depends.{formed_depends}
use Rattle.area.proofs.Formed.{formed_says, formed_test, rising_test}
use Rattle.area.proofs.Found.{listing_means}
use Rattle.area.proofs.SameWords.{words_held}
use Rattle.area.proofs.WordsAt.{words_at_lem, words_same}
use Rattle.rules.specs.Requests.{request_fits}
use Rattle.rules.specs.Replies.{PathReply, reply_of, ReleaseReply, releases, answer_of, path_after}
use Rattle.rules.specs.Calls.{number_fits, request_checks, number_checks, searched, admission, booked, release, cleared}
use Rattle.rules.specs.Meaning.{circuit_for, Admitted, AreaBooked, Cleared, AreaCleared}
use Rattle.rules.proofs.Meaning.{admission_means, release_means}
use Rattle.rules.proofs.Bookings.{admitted_station, admitted_area, admitted_formed, released_station, released_area, released_formed}
use Rattle.cases.specs.SteadyList.{net_a9, NinesLoaded, Call, admits, frees, Step, area_left, net_s1, ListCase, walk, refused, formed, unclear, behind, computed_cases, word_cases, list_cases, CallHolds, WalkHolds, RefusedWithFive, SameBut, ListCaseHolds, ListFigures}

-- ---- what is computed
-- a call's reply on an area with this station, and the station after it
abbrev replied : Station → Call → PathReply
replied s (admits c r a) =
    checked refuses ((5 unless true) ∷ request_checks (books s) work_words path_words r ++ number_checks (books s) c) (searched (books s) r)
replied s (frees c) = refuses 0

abbrev released : Station → Call → ReleaseReply
released s (admits c r a) = refuses 0
released s (frees c) = checked refuses ((5 unless true) ∷ (13 unless (books s).holds c) ∷ []) releases

abbrev left : Station → Call → Station
left s (admits c r (refuses k)) = s
left s (admits c r (grants g)) = with_circuit s (circuit_for c r.terms.units g.path)
left s (frees c) = without_number s c

-- of a step: the call's reply, the words of circuits after it and the circuits' numbers; an admission has no release's reply,
-- and a release none of an admission
record Seen : Type 0 where
  path : PathReply
  freed : ReleaseReply
  words : List ℕ
  numbers : List ℕ

abbrev seen : Station → List Step → List Seen
seen s [] = []
seen s (t ∷ l) =
    let s' = left s t.call in
    record { path = replied s t.call; freed = released s t.call; words = joined (map words_of s'.held); numbers = numbers s'.held }
    ∷ seen s' l

-- and what the case says of it
abbrev path_told : Call → PathReply
path_told (admits c r a) = a
path_told (frees c) = refuses 0

abbrev release_told : Call → ReleaseReply
release_told (admits c r a) = refuses 0
release_told (frees c) = releases

abbrev told : Step → Seen
told t = record { path = path_told t.call; freed = release_told t.call; words = joined t.circuits; numbers = map (λ c. get_or c 0 0) t.circuits }

-- are an area's circuits in order
abbrev in_order : List ℕ → Bool
in_order w = every (rises w) (held_in w)

ordered : (w : List ℕ) → WellFormed w → in_order w ≡ true
unfolding station
ordered w h = every_all (rises w) (held_in w) (rising_test w (held_in w) h.sound.rising)

-- of a case: the test of its area, or whether its circuits are in order, and each step
record Outcome : Type 0 where
  fits : Bool
  steps : List Seen

abbrev computed : ListCase → Outcome
computed (walk k w l) = record { fits = well_formed w; steps = seen (station w) l }
computed (refused k w) = record { fits = in_order w; steps = [] }
computed (formed k w) = record { fits = well_formed w; steps = [] }
computed (unclear k i n) = record { fits = false; steps = [] }
computed (behind k i n) = record { fits = false; steps = [] }

-- and what the case says of these; of a case that is not computed the contrary, so that none can stand in the list below
abbrev expected : ListCase → Outcome
expected (walk k w l) = record { fits = true; steps = map told l }
expected (refused k w) = record { fits = false; steps = [] }
expected (formed k w) = record { fits = true; steps = [] }
expected (unclear k i n) = record { fits = true; steps = [] }
expected (behind k i n) = record { fits = true; steps = [] }

outcomes : map computed computed_cases ≡ map expected computed_cases
unfolding computed_cases net_a9 net_s1 well_formed station table_in circuit_of books net request_fits number_fits searched reply_of outcome search tried solve solve_in answer_in path_in ebf rounds round column offered relaxed improved initialised filled cell cells traced step_back place_back noted follow distance layer spread problem_one problem_two scaled iter first every
outcomes = refl

-- ---- what it means
-- an area that is well formed and has this station
record Reached (w : List ℕ) (s : Station) : Type 0 where
  is : station w ≡ s
  sound : WellFormed w

module _ (w : List ℕ) (s : Station) (here : Reached w s) where
  well : well_formed w ≡ true
  well = formed_test w here.sound

  -- an admission with its reply
  module _ (c : ℕ) (r : Request) (a : PathReply) (e : replied s (admits c r a) ≡ a) where
    said : admission w work_words path_words c r ≡ a
    unfolding admission
    said =
        ap₂
        (λ (b : Bool) (t : Station). checked refuses ((5 unless b) ∷ request_checks (books t) work_words path_words r ++ number_checks (books t) c) (searched (books t) r))
        well here.is
        ∙ e

    admits_holds : CallHolds w (admits c r a) (booked w c r.terms.units a)
    admits_holds = (
      subst (Admitted w work_words path_words c r) said (admission_means w work_words path_words r c),
      subst (λ (b : PathReply). AreaBooked w c r.terms.units b (booked w c r.terms.units b)) said (admitted_area w work_words path_words c r),
    )

    admits_reached : Reached (booked w c r.terms.units a) (left s (admits c r a))
    unfolding booked
    admits_reached =
        record {
          is = go a said;
          sound = subst (λ (b : PathReply). WellFormed (booked w c r.terms.units b)) said (admitted_formed w work_words path_words c r here.sound);
        }
      where
        go : (b : PathReply) → admission w work_words path_words c r ≡ b → station (booked w c r.terms.units b) ≡ left s (admits c r b)
        go (refuses k) q = here.is
        go (grants g) q =
            admitted_station w work_words path_words c r g q ∙ ap (λ (t : Station). with_circuit t (circuit_for c r.terms.units g.path)) here.is

  -- a release that is granted
  module _ (c : ℕ) (e : released s (frees c) ≡ releases) where
    freed_said : release w c ≡ releases
    unfolding release
    freed_said =
        ap₂ (λ (b : Bool) (t : Station). checked refuses ((5 unless b) ∷ (13 unless (books t).holds c) ∷ []) releases) well here.is ∙ e

    frees_holds : CallHolds w (frees c) (cleared w c releases)
    frees_holds =
        record {
          allowed = subst (Cleared w c) freed_said (release_means w c);
          area = subst (λ (b : ReleaseReply). AreaCleared w c b (cleared w c b)) freed_said (released_area w c);
        }

    frees_reached : Reached (cleared w c releases) (left s (frees c))
    frees_reached =
        record {
          is = released_station w c freed_said ∙ ap (λ (t : Station). without_number t c) here.is;
          sound = subst (λ (b : ReleaseReply). WellFormed (cleared w c b)) freed_said (released_formed w c here.sound);
        }

  call_holds : (q : Call) → replied s q ≡ path_told q → released s q ≡ release_told q → CallHolds w q (area_left w q)
  call_holds (admits c r a) e f = admits_holds c r a e
  call_holds (frees c) e f = frees_holds c f

  reached : (q : Call) → replied s q ≡ path_told q → released s q ≡ release_told q → Reached (area_left w q) (left s q)
  reached (admits c r a) e f = admits_reached c r a e
  reached (frees c) e f = frees_reached c f

walk_holds : (w : List ℕ) (s : Station) → Reached w s → (l : List Step) → seen s l ≡ map told l → WalkHolds w l
walk_holds w s here [] e = tt
walk_holds w s here (t ∷ l) e =
    let step = head-eq_of_cons-eq e in
    let path = ap (λ (a : Seen). a.path) step in
    let freed = ap (λ (a : Seen). a.freed) step in
    let after = reached w s here t.call path freed in
    let held = ap (λ (u : Station). u.held) after.is in (
      record {
        called = call_holds w s here t.call path freed;
        words =
            words_held (area_left w t.call) after.sound
            ∙ ap (λ (cs : List Circuit). joined (map words_of cs)) held
            ∙ ap (λ (a : Seen). a.words) step;
        listing =
            subst (ListsHeld (station (area_left w t.call)).held) (ap numbers held ∙ ap (λ (a : Seen). a.numbers) step)
            (listing_means (station (area_left w t.call)).held after.sound.sound.rising);
      },
      walk_holds (area_left w t.call) (left s t.call) after l (tail-eq_of_cons-eq e),
    )

refused_holds : (w : List ℕ) → (WellFormed w → ⊥) → RefusedWithFive w
unfolding answer_of path_after free_answer
refused_holds w none =
    let unfit : well_formed w ≡ false = by_bool (well_formed w) (λ e. absurd (none (formed_says w e))) (λ e. e) in
    record {
      quote = λ work l r. record { reply = refuses 5; allowed = inl (none, refl); answer = refl; path = refl };
      admission = λ work l c r. record { reply = refuses 5; allowed = inl (none, refl); answer = refl; path = refl; area = refl };
      release = λ c. record { allowed = inl (none, refl); area = refl };
      list = λ l. record { reply = refuses 5; allowed = inl (none, refl); answer = refl; buffer = refl };
      free_units = λ i. rw unfit refl;
    }

holds : (c : ListCase) → computed c ≡ expected c → ListCaseHolds c
holds (walk k w l) e =
    walk_holds w (station w) (record { is = refl; sound = formed_says w (ap (λ (o : Outcome). o.fits) e) }) l (ap (λ (o : Outcome). o.steps) e)
holds (refused k w) e = refused_holds w (λ h. true≢false (sym (ordered w h) ∙ ap (λ (o : Outcome). o.fits) e))
holds (formed k w) e = formed_says w (ap (λ (o : Outcome). o.fits) e)
holds (unclear k i n) e = absurd (true≢false (sym (ap (λ (o : Outcome). o.fits) e)))
holds (behind k i n) e = absurd (true≢false (sym (ap (λ (o : Outcome). o.fits) e)))

-- one equation of two lists, as a statement of each case, beside those that are not computed
each : (l m : List ListCase) → map computed l ≡ map expected l → All ListCaseHolds m → All ListCaseHolds (l ++ m)
each [] m e rest = rest
each (c ∷ l) m e rest = (holds c (head-eq_of_cons-eq e), each l m (tail-eq_of_cons-eq e) rest)

-- ---- an unused path word that is not 0: that of the circuit at place j, which has so many links
module _ (w : List ℕ) (j links i : ℕ) (low : j < held_in w) (are : get_or w (place j + 2) 0 ≡ links)
    (past : place j + path_start + links ≤ i) (within : i < place (suc j)) (long : i < length w) where
  abbrev stored : List ℕ
  stored = set w i 1

  -- a word of the circuit
  word : (k : ℕ) → k < circuit_words → get_or (words_in stored j) k 0 ≡ get_or stored (place j + k) 0
  word k small = words_at_lem stored (place j) circuit_words k small

  unclear_unformed : WellFormed stored → ⊥
  unclear_unformed h =
      let count = get_or-set_other w i 2 1 0 (omega arith) in
      let links_stay = word 2 (omega arith) ∙ get_or-set_other w i (place j + 2) 1 0 (omega arith) ∙ are in
      let there : place j + (i - place j) ≡ i = omega arith in
      let one = word (i - place j) (omega arith) ∙ ap (λ (k : ℕ). get_or stored k 0) there ∙ get_or-set_same w i 1 0 long in
      let clear = h.clear j (omega (arith, count, low)) (i - place j) (omega (arith, links_stay)) (omega arith) in
      omega (arith, one, clear)

-- ---- the area of S1
s1_long : length net_s1 ≡ area_words
unfolding net_s1
s1_long = refl

s1_held : held_in net_s1 ≡ 3
unfolding net_s1
s1_held = refl

s1_links : get_or net_s1 1 0 ≡ 4
unfolding net_s1
s1_links = refl

s1_formed : well_formed net_s1 ≡ true
unfolding net_s1 well_formed table_in circuit_of
s1_formed = refl

s1_refused : (j links i : ℕ) → j < 3 → get_or net_s1 (place j + 2) 0 ≡ links → place j + path_start + links ≤ i → i < place (suc j)
    → RefusedWithFive (set net_s1 i 1)
s1_refused j links i low are past within =
    refused_holds (set net_s1 i 1)
    (unclear_unformed net_s1 j links i (omega (arith, low, s1_held)) are past within (omega (arith, low, within, s1_long)))

-- what stands behind its circuits is not read
s1_open : (w : List ℕ) → SameBut 1385 2074 net_s1 w → WellFormed w
unfolding table_in
s1_open w same = formed_says w (formed_depends w net_s1 table count words (ap (leb area_words) same.long) ∙ s1_formed)
  where
    nodes : get_or w 0 0 ≡ get_or net_s1 0 0
    nodes = same.before 0 (omega arith)

    links : get_or w 1 0 ≡ get_or net_s1 1 0
    links = same.before 1 (omega arith)

    count : get_or w 2 0 ≡ get_or net_s1 2 0
    count = same.before 2 (omega arith)

    table : table_in w ≡ table_in net_s1
    table =
        λ t. record {
          nodes = nodes t;
          links = links t;
          words =
              (ap (λ (m : ℕ). words_at w first_link (link_words * m)) links
              ∙ words_same net_s1 w first_link first_link (link_words * get_or net_s1 1 0) (λ i low. same.before (first_link + i) (omega (arith, s1_links, low))))
              t;
          hold_times =
              (ap (words_at w first_hold) nodes
              ∙ words_same net_s1 w first_hold first_hold (get_or net_s1 0 0) (λ i low. same.behind (first_hold + i) (omega arith)))
              t;
        }

    words : held_words w ≡ held_words net_s1
    words =
        ap (λ (h : ℕ). words_at w first_circuit (circuit_words * h)) count
        ∙ words_same net_s1 w first_circuit first_circuit (circuit_words * get_or net_s1 2 0) (λ i low. same.before (first_circuit + i) (omega (arith, s1_held, low)))

pub all_list_cases : All ListCaseHolds list_cases
unfolding net_s1
all_list_cases =
    each computed_cases word_cases outcomes (
      λ i low high. s1_refused 0 1 i (omega arith) refl (omega arith) (omega arith),
      (
        λ i low high. s1_refused 1 2 i (omega arith) refl (omega arith) (omega arith),
        (λ i low high. s1_refused 2 3 i (omega arith) refl (omega arith) (omega arith), (s1_open, tt)),
      ),
    )

-- the net is freshly loaded
pub nines_loaded : NinesLoaded
unfolding load_answer
nines_loaded = refl

pub list_figures : ListFigures
unfolding net_s1 station table_in circuit_of cleared
list_figures = record { free_0 = refl; free_1 = refl; free_2 = refl; free_3 = refl; freed_1 = refl; freed_2 = refl }
