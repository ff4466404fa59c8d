-- Scaled weights and problems with a bound of 0, on the net of free lines of the cases: free and paid links, a solution and
-- none, jobs that are feasible and not, and why Theorem 2 asks for an x of 1 or more. Both theorems are used where they stand alone.
-- Assumes nothing.
use Prim.Native.Nat.{ℕ, ◌<◌, ◌≤◌}
use mathlib.Core.Path.{◌≡◌, refl}
use mathlib.Core.List.{List, [], ◌∷◌}
use mathlib.Core.Logic.{inl, inr}
use native.Mathlib.Omega.{arith}
use Rattle.network.specs.Net.{Net, sum}
use Rattle.network.specs.Words.{net_of}
use Rattle.network.specs.Scale.{scaled, Overqualified}
use Rattle.network.specs.Problem.{Solves, NoSolution}
use Rattle.network.specs.Reduce.{problem_one, problem_two, asking, WithinBounds}
use Rattle.network.proofs.Paths.{path_of_lem}
use Rattle.network.proofs.Bounds.{solution_one_within, costless_by_one}
use Rattle.ledger.specs.Sentences.{Feasible, ZeroBound}
use Rattle.cases.specs.Document01.{m3}
use Rattle.cases.specs.FreeLines.{f4, f8, free_links, instant_links}
use Rattle.instances.specs.Nets.{net_f, slow}

-- ---- one link
-- with a bound of 0: nothing is scaled to 0, anything to x + 1, whatever it weighs; with a bound of 1 as before
pub scaled_by_none : (scaled 8 0 0 ≡ 0) × (scaled 8 0 1 ≡ 9) × (scaled 8 0 1000000 ≡ 9) × (scaled 8 1 0 ≡ 0) × (scaled 8 1 1 ≡ 8)
unfolding scaled
scaled_by_none = (refl, refl, refl, refl, refl)

-- at x = 0 every weight would be overqualified for a bound of 0, and yet scaled over x
pub x_wanted : Overqualified 0 0 1 1 × (0 < scaled 0 0 1)
unfolding Overqualified scaled
x_wanted = (omega arith, omega arith)

-- ---- problems on the net of free lines
-- links 0, 1 and 2 cost nothing; link 3 does, as little as can be, and is over x = 8
pub free_solves : Solves net_f (problem_one net_f f4 8) 0 3 free_links
unfolding net_of problem_one scaled
free_solves = record { path = path_of_lem net_f 0 3 free_links refl; within = omega arith; reduced = omega arith }

pub paid_unsolved : Solves net_f (problem_one net_f f4 8) 0 3 (3 ∷ []) → ⊥
unfolding net_of problem_one scaled
paid_unsolved h = let over = h.reduced in omega (arith, over)

-- links 4, 1 and 5 take no time, and are within a kept bound of 0; the free path is not
pub instant_solves : Solves net_f (problem_one net_f f8 8) 0 3 instant_links
unfolding net_of problem_one scaled
instant_solves = record { path = path_of_lem net_f 0 3 instant_links refl; within = omega arith; reduced = omega arith }

pub free_too_slow : Solves net_f (problem_two net_f f8 8) 0 3 free_links → ⊥
unfolding net_of problem_two scaled
free_too_slow h = let over = h.reduced in omega (arith, over)

-- ---- bounds of 0, and paths that keep both
pub zero_cost : ZeroBound f4
zero_cost = inr refl

pub zero_delay : ZeroBound f8
zero_delay = inl refl

pub m3_bounds : ZeroBound m3 → ⊥
m3_bounds (inl e) = omega (arith, e)
m3_bounds (inr e) = omega (arith, e)

pub free_feasible : Feasible net_f f4
unfolding net_of
free_feasible = (free_links, path_of_lem net_f 0 3 free_links refl, record { delay = omega arith; cost = omega arith })

-- where no time may pass
pub slow_infeasible : Feasible slow (asking 0 1 1 0 5 8) → ⊥
unfolding net_of
slow_infeasible ([], path, h) = path.some
slow_infeasible (i ∷ p, path, h) =
    let first : i ≡ 0 = omega (arith, path.walk.0) in
    let over : slow.delay i ≤ 0 = omega (arith, h.delay) in
    let three : slow.delay 0 ≤ 0 = rw first at over in
    omega (arith, three)

-- ---- what the laws give by themselves
-- a solution with a cost bound of 0 costs nothing
pub solved_for_nothing : (g : Net) (s t b d f x : ℕ) (p : List ℕ) → 0 < x → Solves g (problem_one g (asking s t b d 0 f) x) s t p
    → sum g.cost p ≡ 0
solved_for_nothing g s t b d f x p some h =
    let within : WithinBounds g (asking s t b d 0 f) p = solution_one_within g (asking s t b d 0 f) x p some h in
    omega (arith, within.cost)

-- and problem two never has one where problem one has none
pub by_one_alone : (g : Net) (s t b d f x : ℕ) → 0 < x → NoSolution g (problem_one g (asking s t b d 0 f) x) s t
    → NoSolution g (problem_two g (asking s t b d 0 f) x) s t
by_one_alone g s t b d f x some none p h = none p (costless_by_one g (asking s t b d 0 f) x p some refl h)
