-- Document 01's worked cases: their nets have no hold times, so by proofs/Delays.antt of `rules` they are replied to as by the
-- links' own delays; those replies are computed at once, and a reply is what the call means, by proofs/Meaning.antt there. Beside them stand the figures of M2, M3 and M11.
-- Assumes nothing.
use Prim.Native.Nat.{ℕ, zero, suc, ◌≤◌, ◌<◌}
use mathlib.Core.Path.{◌≡◌, refl, ap, ◌∙◌, subst}
use mathlib.Core.Bool.{true}
use mathlib.Core.List.{List, [], ◌∷◌, map, head-eq_of_cons-eq, tail-eq_of_cons-eq}
use native.Mathlib.Omega.{arith}
use lib.ListN.{length}
use Rattle.network.specs.Limits.{path_words, work_words}
use Rattle.network.specs.Lists.{All}
use Rattle.network.specs.Loops.{iter, first}
use Rattle.network.specs.Net.{Net, IsPath, is_pathb}
use Rattle.network.specs.Scale.{scaled, Overqualified}
use Rattle.network.specs.Problem.{Distance}
use Rattle.network.specs.Cut.{noted, follow}
use Rattle.network.specs.Reduce.{problem_one, problem_two}
use Rattle.network.proofs.Paths.{path_of_lem}
use Rattle.search.specs.ebf.Table.{cell, cells, filled, initialised, improved, relaxed, offered, column, round, rounds, ebf}
use Rattle.search.specs.ebf.Trace.{place_back, step_back, traced}
use Rattle.search.specs.ebf.Solve.{path_in, answer_in, solve_in, solve}
use Rattle.search.specs.Distance.{spread, layer, distance}
use Rattle.search.specs.Heuristic.{tried, search}
use Rattle.search.specs.Result.{outcome}
use Rattle.area.specs.Station.{table_in, circuit_of, station}
use Rattle.area.specs.Books.{books, net, net_unheld}
use Rattle.area.specs.Formed.{well_formed}
use Rattle.rules.specs.Requests.{request_fits}
use Rattle.area.specs.Load.{load_answer}
use Rattle.rules.specs.Replies.{PathReply, reply_of}
use Rattle.rules.specs.Calls.{number_fits, quote_checks, admit_checks}
use Rattle.rules.specs.Meaning.{books_in, net_for}
use Rattle.cases.specs.Document01.{net_a, net_b, AreasLoaded, m2, m3, m11, area_in, Case, cases, Holds, CaseHolds, Margins}
use Rattle.cases.specs.Replied.{replied, replied_to}
use Rattle.cases.specs.declared.Ground.{Ground}
use Rattle.cases.specs.declared.Ground.TheVariants.{OnA, AfterM8, OnNone, OnB}
use Rattle.cases.specs.declared.Asked.{Asked}
use Rattle.cases.specs.declared.Asked.TheVariants.{Quote, Admission}
use Rattle.area.specs.Refusals.{refuses}
use Rattle.area.specs.Checks.{checked}
use Rattle.rules.proofs.Meaning.{quote_means, admission_means}
use Rattle.rules.proofs.Delays.{NoneHeld, unheld_reply, quote_unheld, admission_unheld}

-- ---- the cases
-- a call's reply by the links' own delays
abbrev replied_by_links : List ℕ → Asked → PathReply
replied_by_links w (Quote r) = checked refuses (quote_checks w work_words path_words r) (unheld_reply (books_in w) r)
replied_by_links w (Admission c r) = checked refuses (admit_checks w work_words path_words c r) (unheld_reply (books_in w) r)

-- No node of their nets holds anything, so a call replies as it does by the links' own delays.
unheld_replied : (w : List ℕ) → NoneHeld (table_in w).hold_times → (q : Asked) → replied w q ≡ replied_by_links w q
unheld_replied w none (Quote r) = quote_unheld w none work_words path_words r
unheld_replied w none (Admission c r) = admission_unheld w none work_words path_words r c

none_held_in : (k : Ground) → NoneHeld (table_in (area_in k)).hold_times
unfolding area_in table_in
none_held_in OnA = (refl, (refl, (refl, (refl, tt))))
none_held_in AfterM8 = (refl, (refl, (refl, (refl, tt))))
none_held_in OnNone = (refl, (refl, (refl, (refl, tt))))
none_held_in OnB = (refl, (refl, (refl, (refl, tt))))

-- those replies of all cases, computed
replies_by_links : map (λ (c : Case). replied_by_links (area_in c.row.stands) c.row.asked) cases ≡ map (λ (c : Case). c.reply) cases
unfolding cases area_in well_formed station books request_fits number_fits reply_of net_unheld table_in circuit_of outcome search tried solve solve_in answer_in path_in ebf rounds round column offered relaxed improved initialised filled cell cells traced step_back place_back noted follow distance layer spread problem_one problem_two scaled iter first
replies_by_links = refl

pub replies : map (λ (c : Case). replied_to c.row) cases ≡ map (λ (c : Case). c.reply) cases
replies =
    ap (λ (f : Case → PathReply). map f cases) (λ t c. unheld_replied (area_in c.row.stands) (none_held_in c.row.stands) c.row.asked t)
    ∙ replies_by_links

-- a computed reply is what the call means
pub replied_holds : (w : List ℕ) (q : Asked) → Holds w q (replied w q)
replied_holds w (Quote r) = quote_means w work_words path_words r
replied_holds w (Admission c r) = admission_means w work_words path_words r c

-- one equation of two lists, as a statement of each case: whatever a case is, it stands on an area and has a call and a reply
pub each_case : {A : Type 0} (stands : A → List ℕ) (asked : A → Asked) (reply : A → PathReply) (l : List A)
    → map (λ (c : A). replied (stands c) (asked c)) l ≡ map reply l
    → All (λ (c : A). Holds (stands c) (asked c) (reply c)) l
each_case stands asked reply [] e = tt
each_case stands asked reply (c ∷ l) e = (
  subst (Holds (stands c) (asked c)) (head-eq_of_cons-eq e) (replied_holds (stands c) (asked c)),
  each_case stands asked reply l (tail-eq_of_cons-eq e),
)

-- the areas are freshly loaded
pub areas_loaded : AreasLoaded
unfolding load_answer
areas_loaded = (refl, (refl, (refl, tt)))

-- M1 to M11 hold
pub all_cases : All CaseHolds cases
all_cases = each_case (λ (c : Case). area_in c.row.stands) (λ (c : Case). c.row.asked) (λ (c : Case). c.reply) cases replies

-- ---- the figures
-- a path by one link gives distance 1
pub one_link_lem : (g : Net) (s t i : ℕ) → is_pathb g s t (i ∷ []) ≡ true → Distance g s t 1
one_link_lem g s t i e = record { reached = (i ∷ [], path_of_lem g s t (i ∷ []) e, refl); fewest = fewest }
  where
    fewest : (p : List ℕ) → IsPath g s t p → 1 ≤ length p
    fewest [] h = absurd h.some
    fewest (j ∷ p) h = omega arith

-- a path by two links gives distance 2 where no link goes straight
two_links : (g : Net) (s t i j : ℕ) → is_pathb g s t (i ∷ j ∷ []) ≡ true
    → ((k : ℕ) → k < g.links → g.tail k ≡ s → g.head k ≡ t → ⊥)
    → Distance g s t 2
two_links g s t i j e none = record { reached = (i ∷ j ∷ [], path_of_lem g s t (i ∷ j ∷ []) e, refl); fewest = fewest }
  where
    fewest : (p : List ℕ) → IsPath g s t p → 2 ≤ length p
    fewest [] h = absurd h.some
    fewest (k ∷ []) h = absurd (none k h.walk.0 h.walk.2 h.walk.3)
    fewest (k ∷ o ∷ p) h = omega arith

-- no link of net B goes from 0 to 3
none_straight : (k : ℕ) → k < (net_for net_b m11).links → (net_for net_b m11).tail k ≡ 0 → (net_for net_b m11).head k ≡ 3 → ⊥
unfolding net_b net books station table_in
none_straight zero low from to = omega (arith, from)
none_straight (suc zero) low from to = omega (arith, from)
none_straight (suc (suc zero)) low from to = omega (arith, from)
none_straight (suc (suc (suc zero))) low from to = omega (arith, to)
none_straight (suc (suc (suc (suc k)))) low from to = omega (arith, low)

pub margins : Margins
unfolding net_a net_b net books station table_in Overqualified
margins =
    record {
      m2_sides = record { distance = one_link_lem (net_for net_a m2) 0 3 3 refl; cost = refl; left_side = refl; right_side = refl };
      m2_over = λ h. omega (arith, h);
      m3_sides = record { distance = one_link_lem (net_for net_a m3) 0 3 3 refl; cost = refl; left_side = refl; right_side = refl };
      m3_met = omega arith;
      m11_distance = two_links (net_for net_b m11) 0 3 3 2 refl none_straight;
      m11_x = refl;
    }
