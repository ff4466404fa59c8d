-- The two reduced problems on net A, where the distance is 1: with a solution and without one, best and not best,
-- overqualified and not, within the bounds and not. That a problem has no solution follows from the law of the search,
-- whose answers are computed.
-- Assumes nothing.
use Prim.Native.Nat.{ℕ, ◌<◌}
use mathlib.Core.Path.{◌≡◌, refl, subst}
use mathlib.Core.Bool.{true, false}
use mathlib.Core.List.{List}
use mathlib.Core.Logic.{inl, inr}
use mathlib.Core.Option.{Option, none, some}
use native.Mathlib.Omega.{arith}
use Rattle.network.specs.Loops.{iter, first, every}
use Rattle.network.specs.Net.{Ends}
use Rattle.network.specs.Words.{net_of}
use Rattle.network.specs.Scale.{scaled, Overqualified}
use Rattle.network.specs.NodeSet.{member, inserted}
use Rattle.network.specs.Cut.{noted, follow}
use Rattle.network.specs.Problem.{Problem, Solves, Best, NoSolution}
use Rattle.network.specs.Reduce.{problem_one, problem_two, one, two, WithinBounds, Enough, no_path, no_solution, granted, problem_number, Found}
use Rattle.network.proofs.Bounds.{one_distance}
use Rattle.search.specs.ebf.Table.{cell, cells, filled, initialised, improved, relaxed, offered, column, round, rounds, ebf}
use Rattle.search.specs.ebf.Trace.{place_back, step_back, traced}
use Rattle.search.specs.ebf.Solve.{path_in, answer_in, solve_in, solve}
use Rattle.search.proofs.ebf.Solved.{Solved, solved}
use Rattle.network.specs.declared.answer.Reduction.TheVariants.{One, Two}
use Rattle.area.specs.Formed.{LinkFits, links_fit}
use Rattle.area.proofs.Formed.{links_says}
use Rattle.area.specs.Load.{table_of}
use Rattle.cases.specs.Document01.{links_a, unheld, m2, m3, three}
use Rattle.instances.specs.Nets.{net_a, shut_a, straight, m1, m4, m6}
use Rattle.instances.proofs.Paths.{three_path, straight_path, distance_one, shut_no_path}

-- ---- what the search answers
-- each link of net A is in its ranges
pub links_fit_lem : (i : ℕ) → i < 4 → LinkFits (table_of (unheld links_a)) i
unfolding links_fit
links_fit_lem = links_says (table_of (unheld links_a)) refl

-- and the test says so; not of three nodes, as link 2 leads to node 3
pub links_tested : (links_fit 4 4 links_a ≡ true) × (links_fit 3 4 links_a ≡ false)
unfolding links_fit every
links_tested = (refl, refl)

pub ends : Ends net_a
unfolding net_of
ends = record { tails = λ i low. (links_fit_lem i low).from; heads = λ i low. (links_fit_lem i low).to }

answered : (q : Problem) (a : Option (List ℕ)) → solve net_a q 0 3 ≡ a → Solved net_a q 0 3 a
unfolding net_of
answered q a e =
    subst (Solved net_a q 0 3) e
    (solved net_a q ends (omega arith) 0 3 (omega arith) (omega arith) (λ z. omega (arith, z)))

abbrev answer : Problem → Option (List ℕ)
answer q = solve net_a q 0 3

computed : (answer (one net_a m3 1) ≡ some three)
    × (answer (one net_a m1 1) ≡ none)
    × (answer (two net_a m1 1) ≡ none)
    × (answer (one net_a m4 1) ≡ none)
    × (answer (two net_a m4 1) ≡ some three)
unfolding net_of solve solve_in answer_in path_in ebf rounds round column offered relaxed improved initialised filled cell cells traced step_back place_back noted follow member inserted problem_one problem_two scaled iter first
computed = (refl, refl, refl, refl, refl)

-- ---- M3: problem one has a solution, and a best one
pub m3_solves : Solves net_a (one net_a m3 1) 0 3 three
unfolding net_of problem_one scaled
m3_solves = record { path = three_path; within = omega arith; reduced = omega arith }

pub m3_best : Best net_a (one net_a m3 1) 0 3 three
m3_best = answered (one net_a m3 1) (some three) computed.0

-- link 3 is a path, and no solution
pub m3_straight : Solves net_a (one net_a m3 1) 0 3 straight → ⊥
unfolding net_of problem_one
m3_straight h = let over = h.within in omega (arith, over)

-- ---- M6: link 3 is a solution too, and not a best one
pub m6_solves : Solves net_a (one net_a m6 1) 0 3 straight
unfolding net_of problem_one scaled
m6_solves = record { path = straight_path; within = omega arith; reduced = omega arith }

pub m6_not_best : Best net_a (one net_a m6 1) 0 3 straight → ⊥
unfolding net_of problem_one scaled
m6_not_best h =
    let other : Solves net_a (one net_a m6 1) 0 3 three =
    record { path = three_path; within = omega arith; reduced = omega arith } in
    let less = h.least three other in
    omega (arith, less)

-- ---- M1: neither problem has a solution, though there are paths
pub m1_none_one : NoSolution net_a (one net_a m1 1) 0 3
m1_none_one = answered (one net_a m1 1) none computed.1

pub m1_none_two : NoSolution net_a (two net_a m1 1) 0 3
m1_none_two = answered (two net_a m1 1) none computed.2

-- ---- M4: problem one has no solution, and problem two has a best one
pub m4_none_one : NoSolution net_a (one net_a m4 1) 0 3
m4_none_one = answered (one net_a m4 1) none computed.3

pub m4_best_two : Best net_a (two net_a m4 1) 0 3 three
m4_best_two = answered (two net_a m4 1) (some three) computed.4

-- ---- overqualified
-- the path of M3 is, with equality: one point of cost more, and it is not
pub m3_overqualified : Overqualified 8 20 3 15
unfolding Overqualified
m3_overqualified = omega arith

pub m3_dearer : Overqualified 8 20 3 16 → ⊥
unfolding Overqualified
m3_dearer h = omega (arith, h)

-- so it is enough by the paper's condition one
pub m3_enough : Enough net_a m3 1 three
unfolding net_of
m3_enough = inl (omega arith, m3_overqualified)

-- the path of M2 solves problem one, and is enough by neither condition
pub m2_solves : Solves net_a (one net_a m2 1) 0 3 three
unfolding net_of problem_one scaled
m2_solves = record { path = three_path; within = omega arith; reduced = omega arith }

pub m2_not_enough : Enough net_a m2 1 three → ⊥
unfolding net_of Overqualified
m2_not_enough (inl h) = omega (arith, h.1)
m2_not_enough (inr h) = omega (arith, h.1)

-- ---- document 01's numbers of the two problems
pub numbers_lem : (problem_number One ≡ 1) × (problem_number Two ≡ 2)
numbers_lem = (refl, refl)

pub numbers_differ : problem_number Two ≡ problem_number One → ⊥
numbers_differ e = omega (arith, e)

-- ---- within the bounds
pub three_within : WithinBounds net_a m3 three
unfolding net_of
three_within = record { delay = omega arith; cost = omega arith }

pub straight_over : WithinBounds net_a m3 straight → ⊥
unfolding net_of
straight_over h = let over = h.delay in omega (arith, over)

-- ---- what a search must find: each of the four outcomes, and for M3 not that there is no solution
pub found_none : Found shut_a m3 no_path
found_none = Found.none shut_no_path

pub found_unsolved : Found net_a m1 no_solution
found_unsolved = Found.unsolved 1 distance_one m1_none_one m1_none_two

pub found_by_one : Found net_a m3 (granted One three)
found_by_one = Found.by_one 1 three distance_one m3_best

pub found_by_two : Found net_a m4 (granted Two three)
found_by_two = Found.by_two 1 three distance_one m4_none_one m4_best_two

pub not_found : Found net_a m3 no_solution → ⊥
not_found (Found.unsolved k far no_one no_two) =
    let same : k ≡ 1 = one_distance net_a 0 3 k 1 far distance_one in (rw same at no_one) three m3_solves
