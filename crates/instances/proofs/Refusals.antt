-- The first rule that applies, and what a call may then reply; the numbers of the code's refusals; what a quote and an
-- admission on net A mean, and what they do not; a listing on net A likewise.
-- Assumes nothing.
use Prim.Native.Nat.{ℕ, ◌-◌}
use mathlib.Core.Path.{◌≡◌, ◌∙◌, ap, refl, sym, subst}
use mathlib.Core.List.{List, [], ◌∷◌, ◌++◌, map}
use mathlib.Core.Logic.{inl, inr}
use native.Mathlib.Omega.{arith}
use lib.ListN.{length, replicate, get_or}
use Rattle.std.specs.Prelude.{Ok, Err}
use Rattle.network.specs.declared.answer.NoRoute.TheVariants as route
use Rattle.network.specs.declared.answer.Reduction.TheVariants.{One}
use Rattle.area.specs.Station.{Circuit, station, table_in, circuit_of}
use Rattle.area.specs.Refusals.{Rule, ◌when◌, FirstApplies, Passes, number, numbered, refusal_of, refuses, grants, Answered}
use Rattle.area.specs.declared.refusal.Refusal.{Refusal}
use Rattle.area.specs.declared.refusal.Refusal.TheVariants as why
use Rattle.area.specs.Reads.{list_answer, listed, ListMeans}
use Rattle.area.proofs.Refusals.{one_first, none_first}
use Rattle.area.proofs.ReadCases.{listed_as}
use Rattle.rules.specs.Replies.{answer_of, path_after, granting}
use Rattle.rules.specs.Allowed.{search_rules}
use Rattle.rules.specs.Meaning.{quote_rules, net_for, Quoted, Rebooked, QuoteMeans}
use Rattle.rules.proofs.Meaning.{quote_means}
use Rattle.rules.proofs.Granting.{quoted_as}
use Rattle.cases.specs.Document01.{m3, three}
use Rattle.instances.specs.Areas.{fresh_a, held_a, two_a}
use Rattle.instances.specs.Calls.{path}
use Rattle.instances.proofs.Areas.{seven, eight, held_formed, added_leaves}
use Rattle.instances.proofs.Bookings.{quotes}
use Rattle.instances.proofs.Meanings as meanings

-- ---- three rules of which the first does not apply
abbrev pub three_rules : List Rule
three_rules = (6 when ⊥) ∷ (7 when Unit {0}) ∷ (8 when Unit {0}) ∷ []

pub seven_first : FirstApplies three_rules 7
seven_first = inr (λ h. h, inl (tt, refl))

-- 8 applies too, but not first
pub eight_later : FirstApplies three_rules 8 → ⊥
eight_later h = omega (arith, one_first three_rules 8 7 h seven_first)

pub not_passed : Passes three_rules → ⊥
not_passed h = h.1.0 tt

-- a reply under them is the refusal with 7, and no grant
pub refused_seven : Answered (λ (n : ℕ). n ≡ 3) three_rules (refuses 7)
refused_seven = seven_first

pub not_granted : (n : ℕ) → Answered (λ (m : ℕ). m ≡ 3) three_rules (grants n) → ⊥
not_granted n h = not_passed h.0

-- past the first rule alone it is the grant, of just that number
pub granted_three : Answered (λ (n : ℕ). n ≡ 3) ((6 when ⊥) ∷ []) (grants 3)
granted_three = ((λ h. h, tt), refl)

pub not_four : Answered (λ (n : ℕ). n ≡ 3) ((6 when ⊥) ∷ []) (grants 4) → ⊥
not_four h = omega (arith, h.1)

-- ---- document 01's numbers of the code's refusals: 1 to 24, each once
abbrev refusals : List Refusal
refusals =
    why.AreaShort ∷ why.NodeCount ∷ why.WordCount ∷ why.LinkRange ∷ why.NotWellFormed ∷ why.WorkShort ∷ why.PathShort
    ∷ why.RequestRange ∷ why.NoPath ∷ why.NoSolution ∷ why.CircuitNumber ∷ why.CircuitsFull ∷ why.NotHeld ∷ why.NumbersShort
    ∷ why.NoSuchLink ∷ why.NoSuchClass ∷ why.NotSigned ∷ why.FileLength ∷ why.TableShort ∷ why.ClassWords ∷ why.ClassRange
    ∷ why.HoldRange ∷ why.JobWords ∷ why.AnswersShort ∷ []

pub numbers : map number refusals
    ≡ 1 ∷ 2 ∷ 3 ∷ 4 ∷ 5 ∷ 6 ∷ 7 ∷ 8 ∷ 9 ∷ 10 ∷ 11 ∷ 12 ∷ 13 ∷ 14 ∷ 15 ∷ 16 ∷ 17 ∷ 18 ∷ 19 ∷ 20 ∷ 21 ∷ 22 ∷ 23 ∷ 24 ∷ []
numbers = refl

-- so the number tells the refusal: no two have one number
abbrev with_number : ℕ → Refusal
with_number k = get_or refusals (k - 1) why.AreaShort

again : (e : Refusal) → with_number (number e) ≡ e
again why.AreaShort = refl
again why.NodeCount = refl
again why.WordCount = refl
again why.LinkRange = refl
again why.NotWellFormed = refl
again why.WorkShort = refl
again why.PathShort = refl
again why.RequestRange = refl
again why.NoPath = refl
again why.NoSolution = refl
again why.CircuitNumber = refl
again why.CircuitsFull = refl
again why.NotHeld = refl
again why.NumbersShort = refl
again why.NoSuchLink = refl
again why.NoSuchClass = refl
again why.NotSigned = refl
again why.FileLength = refl
again why.TableShort = refl
again why.ClassWords = refl
again why.ClassRange = refl
again why.HoldRange = refl
again why.JobWords = refl
again why.AnswersShort = refl

pub number_tells : (e f : Refusal) → number e ≡ number f → e ≡ f
number_tells e f same = sym (again e) ∙ ap with_number same ∙ again f

-- a search that finds no path is refused with 9, and one that finds no solution with 10, and not with 9
pub route_refused : (numbered {A = ℕ} (Err (refusal_of route.NoPath)) ≡ refuses 9)
    × (numbered {A = ℕ} (Err (refusal_of route.NoSolution)) ≡ refuses 10)
route_refused = (refl, refl)

pub solution_not_nine : numbered {A = ℕ} (Err (refusal_of route.NoSolution)) ≡ refuses 9 → ⊥
solution_not_nine e = let same : ◌≡◌ {A = ℕ} 10 9 = cc in omega (arith, same)

-- what is granted is no refusal
pub given : numbered {A = ℕ} (Ok 3) ≡ grants 3
given = refl

pub given_not_refused : (k : ℕ) → numbered {A = ℕ} (Ok 3) ≡ refuses k → ⊥
given_not_refused k e = cc

-- ---- what a quote of M3 on net A means: granted with its path, and not refused
abbrev path_left : List ℕ
path_left = three ++ replicate 28 0

pub m3_means : QuoteMeans fresh_a 16384 (path 0) m3 (grants (record { problem = One; delay = 6; cost = 15; links = 3 })) path_left
unfolding answer_of path_after
m3_means = (quoted_as fresh_a 16384 (path 0) m3 (granting One 6 15 three) (sym quotes.by_one) _ refl path_left refl).1.1

pub m3_not_refused : (k : ℕ) (l' : List ℕ) → QuoteMeans fresh_a 16384 (path 0) m3 (refuses k) l' → ⊥
m3_not_refused k l' h =
    none_first (quote_rules fresh_a 16384 31 m3 ++ search_rules (net_for fresh_a m3) m3) k
    (subst (Quoted fresh_a 16384 31 m3) quotes.by_one (quote_means fresh_a 16384 31 m3)).0
    (meanings.quote_refused fresh_a 16384 (path 0) m3 l' k h).0

-- ---- an area that is rebooked: net A with circuit 7, and not with circuit 8 as well
pub rebooked : Rebooked fresh_a held_a (seven ∷ [])
unfolding held_a fresh_a station table_in circuit_of
rebooked = record { holds = refl; formed = held_formed; untouched = added_leaves }

pub not_rebooked : Rebooked fresh_a held_a (seven ∷ eight ∷ []) → ⊥
unfolding held_a fresh_a station table_in circuit_of
not_rebooked h = omega (arith, ap (λ (l : List Circuit). length l) h.holds)

-- ---- a listing of circuits 7 and 8: two numbers, and not one
pub two_listed : ListMeans (two_a 8 10) (1 ∷ 1 ∷ 1 ∷ []) (grants 2) (7 ∷ 8 ∷ 1 ∷ [])
unfolding list_answer listed two_a table_in circuit_of
two_listed = (listed_as (two_a 8 10) (1 ∷ 1 ∷ 1 ∷ []) (grants 2) refl (7 ∷ 8 ∷ 1 ∷ []) refl).1.1

pub one_unlisted : (l' : List ℕ) → ListMeans (two_a 8 10) (1 ∷ 1 ∷ 1 ∷ []) (grants 1) l' → ⊥
unfolding two_a station table_in circuit_of
one_unlisted l' h =
    let said = (meanings.list_granted (two_a 8 10) (1 ∷ 1 ∷ 1 ∷ []) l' 1 h).1.1 in omega (arith, said.0, said.2)
