-- The rules that the demands are said with: requests and circuit numbers that fit and some that do not, answers that a call
-- may give and some that it may not, calls that the ledger refuses and calls that it does not, and what a granted path
-- must be.
-- Assumes nothing.
use Prim.Native.Nat.{ℕ}
use mathlib.Core.Path.{◌≡◌, refl, sym, ◌∙◌}
use mathlib.Core.Bool.{true≢false}
use mathlib.Core.List.{[], ◌∷◌}
use mathlib.Core.Logic.{◌⊎◌, inl, inr}
use native.Mathlib.Omega.{arith}
use Rattle.network.specs.declared.Request.{Request}
use Rattle.network.specs.Reduce.{no_solution, asking}
use Rattle.network.proofs.Bounds.{one_distance, found_enough}
use Rattle.search.specs.Result.{GrantedByOne, GrantedByTwo}
use Rattle.network.specs.declared.answer.Reduction.{Reduction}
use Rattle.network.specs.declared.answer.Reduction.TheVariants.{One, Two}
use Rattle.area.specs.Station.{station, table_in, circuit_of}
use Rattle.area.specs.Books.{books}
use Rattle.rules.specs.Requests.{RequestFits, request_fits}
use Rattle.area.specs.Refusals.{Passes, refuses, grants}
use Rattle.rules.specs.Replies.{PathGrant}
use Rattle.rules.specs.Allowed.{NumberFits}
use Rattle.rules.specs.Calls.{number_fits}
use Rattle.rules.specs.Meaning.{books_in, net_for}
use Rattle.rules.proofs.Facts.{granted_not_refused}
use Rattle.rules.proofs.Meaning.{request_says, number_says}
use Rattle.ledger.specs.Entries.{quoting, opened, checks, Refuses}
use Rattle.ledger.specs.Sentences.{Solvable, Overqualifies}
use Rattle.ledger.specs.Demand.{Decided, ThirdDemand, GrantedPath}
use Rattle.ledger.proofs.Demands.{third_demand, any_quote}
use Rattle.cases.specs.Document01.{blank, links_a, unheld, m3, three}
use Rattle.instances.specs.Nets.{net_a, m1}
use Rattle.instances.specs.Areas.{fresh_a, held_a}
use Rattle.instances.specs.Calls.{work, path}
use Rattle.instances.proofs.Paths.{three_path, distance_one}
use Rattle.instances.proofs.Problems.{m1_none_one, m1_none_two, m3_solves, m3_enough, found_unsolved}
use Rattle.instances.proofs.Stations.{loads}
use Rattle.instances.proofs.Bookings.{quotes}

-- ---- requests and circuit numbers
pub request_fits_lem : RequestFits 4 m3
unfolding request_fits
request_fits_lem = request_says 4 m3 refl

pub request_unfit : RequestFits 4 (asking 0 0 1 8 20 8) → ⊥
request_unfit h = h.apart refl

-- circuit 7 is held
pub number_fits_lem : NumberFits (books_in held_a) 8
unfolding number_fits held_a books station table_in circuit_of
number_fits_lem = number_says (books_in held_a) 8 refl

pub number_unfit : NumberFits (books_in held_a) 7 → ⊥
unfolding held_a books station table_in circuit_of
number_unfit h = true≢false h.new

-- ---- the rules before the search
pub passes : Passes (checks (books (opened (unheld links_a))) (quoting 16384 31 m3))
unfolding books
passes = (λ h. omega (arith, h), (λ h. omega (arith, h), (λ h. h request_fits_lem, tt)))

pub not_passes : Passes (checks (books (opened (unheld links_a))) (quoting 16383 31 m3)) → ⊥
not_passes h = h.0 (omega arith)

-- ---- an answer that a call may give: a grant, or a refusal with one of its numbers that keeps what was lent
pub grant_decided : Decided {A = ℕ} (5 ∷ 13 ∷ []) ⊥ (grants 3)
grant_decided = inl (3, refl)

pub refusal_decided : Decided {A = ℕ} (5 ∷ 13 ∷ []) (Unit {0}) (refuses 13)
refusal_decided = inr (13, refl, refl, tt)

-- not a refusal with another number, nor one that keeps nothing
pub six_undecided : Decided {A = ℕ} (5 ∷ 13 ∷ []) (Unit {0}) (refuses 6) → ⊥
six_undecided (inl (_, e)) = cc
six_undecided (inr (k, known, e, _)) = let same : 6 ≡ k = cc in true≢false (sym (rw (← same) at known))

pub unkept_undecided : Decided {A = ℕ} (5 ∷ 13 ∷ []) ⊥ (refuses 13) → ⊥
unkept_undecided (inl (_, e)) = cc
unkept_undecided (inr (k, known, e, kept)) = kept

-- ---- a usable path that solves a problem, and one that is overqualified
pub solvable : Solvable net_a m3
solvable = (1, distance_one, (three, inl m3_solves))

pub unsolvable : Solvable net_a m1 → ⊥
unsolvable (k, far, (p, inl h)) =
    let same : k ≡ 1 = one_distance net_a 0 3 k 1 far distance_one in m1_none_one p (rw same at h)
unsolvable (k, far, (p, inr h)) =
    let same : k ≡ 1 = one_distance net_a 0 3 k 1 far distance_one in m1_none_two p (rw same at h)

pub overqualifies : Overqualifies net_a m3
overqualifies = (1, distance_one, (three, three_path, m3_enough))

pub not_overqualifies : Overqualifies net_a m1 → ⊥
not_overqualifies h =
    let enough = found_enough net_a m1 (omega arith) (λ e. omega (arith, e)) no_solution
    found_unsolved h.0 h.1 h.2.0 h.2.1 h.2.2 in
    let e = enough.2 in
    let z : ◌≡◌ {A = ℕ} 0 1 = cc in
    omega (arith, z)

-- ---- the ledger's refusals, of a quote on net A
-- the third demand of a list of one quote
demand : (r : Request) → ThirdDemand blank (unheld links_a) (quoting (work 0) (path 0) r ∷ [])
demand r = third_demand (unheld links_a) blank loads.loaded (quoting (work 0) (path 0) r ∷ [])

-- it refuses M1 with 10, and with no other number
pub refuses_ten : Refuses (books (opened (unheld links_a))) (quoting 16384 31 m1) 10
unfolding fresh_a
refuses_ten = ((demand m1).refusals.0 10).0 quotes.ten

pub refuses_ten_only : (number : ℕ) → Refuses (books (opened (unheld links_a))) (quoting 16384 31 m1) number → number ≡ 10
unfolding fresh_a
refuses_ten_only number h =
    let same : refuses number ≡ refuses 10 = sym (((demand m1).refusals.0 number).1 h) ∙ quotes.ten in cc same

-- it refuses M3 with none
pub refuses_none : (number : ℕ) → Refuses (books (opened (unheld links_a))) (quoting 16384 31 m3) number → ⊥
unfolding fresh_a
refuses_none number h = granted_not_refused _ number (sym (((demand m3).refusals.0 number).1 h) ∙ quotes.by_one)

-- ---- the path granted for M3, with its problem and totals
abbrev granted : Reduction → ℕ → ℕ → PathGrant
granted which d c = record { problem = which; delay = d; cost = c; path = three }

pub granted_path : GrantedPath (net_for fresh_a m3) m3 (granted One 6 15)
granted_path = any_quote fresh_a 16384 31 m3 (granted One 6 15) quotes.by_one

-- not with another delay or cost
pub delay_invented : GrantedPath (net_for fresh_a m3) m3 (granted One 7 15) → ⊥
delay_invented h = omega (arith, h.delay, granted_path.delay)

pub cost_invented : GrantedPath (net_for fresh_a m3) m3 (granted One 6 16) → ⊥
cost_invented h = omega (arith, h.cost, granted_path.cost)

-- nor by problem two, which counts only where problem one has no solution
abbrev By : Reduction → Type 0
By which = ((which ≡ One) × GrantedByOne (net_for fresh_a m3) m3 three) ⊎ ((which ≡ Two) × GrantedByTwo (net_for fresh_a m3) m3 three)

pub problem_wrong : GrantedPath (net_for fresh_a m3) m3 (granted Two 6 15) → ⊥
problem_wrong h = go h.least granted_path.least
  where
    go : By Two → By One → ⊥
    go (inl (e, _)) first = cc
    go (inr (_, (k, far, none, best))) (inl (_, (k', far', best'))) =
        let same : k' ≡ k = one_distance (net_for fresh_a m3) 0 3 k' k far' far in none three (rw same at best'.solves)
    go (inr _) (inr (e, _)) = cc
