-- The paper's lines one by one, on net P; what the words of a table say of its variables, and what they do not; the tables of
-- the cases as the paper's, and tables with a word changed or by lines in another order, which are not.
-- Assumes nothing.
use Prim.Native.Nat.{ℕ, ◌-◌, ◌<◌, ◌≤◌}
use mathlib.Core.Path.{◌≡◌, refl, ap, subst}
use mathlib.Core.Bool.{true, false}
use mathlib.Core.List.{List}
use native.Mathlib.Omega.{arith}
use lib.ListN.{set}
use Rattle.network.specs.Limits.{most_links}
use Rattle.network.specs.Loops.{iter}
use Rattle.network.specs.Net.{Ends}
use Rattle.network.specs.Problem.{Problem}
use Rattle.network.specs.Reduce.{problem_one, problem_two, one, two}
use Rattle.network.specs.Scale.{scaled}
use Rattle.network.specs.Words.{net_of}
use Rattle.area.specs.Formed.{LinkFits, links_fit}
use Rattle.area.specs.Load.{table_of}
use Rattle.area.proofs.Formed.{links_says}
use Rattle.search.specs.Paper.{Estimation, weight, ∞, Predecessor, link, NIL, Variables, changed, set_d, set_π, plus, greater, initialize, relax, line_1, line_4, line_7, line_8, line_21, line_22, line_23, line_24}
use Rattle.search.specs.Paper as paper
use Rattle.search.specs.ebf.AsPaper.{Within, Names, Entry, LeftByPaper}
use Rattle.search.specs.ebf.Table.{cell, cells, filled, initialised, improved, relaxed, offered, column, round, rounds, ebf}
use Rattle.search.proofs.ebf.AsPaper.{ebf_as_paper}
use Rattle.cases.specs.Document01.{unheld}
use Rattle.cases.specs.PaperLines.{links_p, p1, p2, p3, nines}
use Rattle.instances.specs.Nets.{net_p}

-- ---- assignments: at ⟨1, 2⟩ and at no other pair, of d or of π alone
pub assigned : {A : Type 0} (f : ℕ → ℕ → A) (e : A)
    → (changed f 1 2 e 1 2 ≡ e) × (changed f 1 2 e 2 1 ≡ f 2 1) × (changed f 1 2 e 1 3 ≡ f 1 3)
assigned f e = (refl, refl, refl)

pub assigned_d : (t : Variables) → ((set_d 1 2 (weight 5) t).d 1 2 ≡ weight 5) × ((set_d 1 2 (weight 5) t).π ≡ t.π)
assigned_d t = (refl, refl)

pub assigned_π : (t : Variables) → ((set_π 1 2 (link 5) t).π 1 2 ≡ link 5) × ((set_π 1 2 (link 5) t).d ≡ t.d)
assigned_π t = (refl, refl)

-- ---- ∞ stays ∞, and is more than any number; neither it nor a number is more than itself
pub sums : (plus (weight 2) 3 ≡ weight 5) × (plus ∞ 3 ≡ ∞)
sums = (refl, refl)

pub comparisons : (greater (weight 3) (weight 2) ≡ true)
    × (greater (weight 2) (weight 2) ≡ false)
    × (greater (weight 2) (weight 3) ≡ false)
    × (greater ∞ (weight 2) ≡ true)
    × (greater (weight 2) ∞ ≡ false)
    × (greater ∞ ∞ ≡ false)
comparisons = (refl, refl, refl, refl, refl, refl)

-- ---- the lines, for the problems of the cases
abbrev q1 : Problem
q1 = one net_p p1.request 1

abbrev q2 : Problem
q2 = one net_p p2.request 1

abbrev q3 : Problem
q3 = two net_p p3.request 1

-- variables that hold something everywhere; Initialize leaves it past x, and at 4, which is no node
abbrev before : Variables
before = record { d = λ v k. weight 7; π = λ v k. link 5 }

abbrev started : Variables
started = initialize net_p q1 0 before

pub initialized : (started.d 0 2 ≡ weight 0)
    × (started.π 0 2 ≡ NIL)
    × (started.d 3 2 ≡ ∞)
    × (started.π 3 2 ≡ NIL)
    × (started.d 0 3 ≡ weight 7)
    × (started.π 4 0 ≡ link 5)
unfolding net_of problem_one line_1 line_4 iter
initialized = (refl, refl, refl, refl, refl, refl)

-- Relax from 0 by link 3, and then by link 4, which offers the same
abbrev by_3 : Variables
by_3 = relax net_p q1 0 3 started

abbrev by_4 : Variables
by_4 = relax net_p q1 0 4 by_3

pub relaxed_where_less : (by_3.d 1 0 ≡ weight 2) × (by_3.π 1 0 ≡ link 3) × (by_3.d 1 1 ≡ ∞)
unfolding net_of problem_one scaled line_1 line_4 line_7 line_8 iter
relaxed_where_less = (refl, refl, refl)

pub not_where_equal : by_4 ≡ by_3
unfolding net_of problem_one scaled line_1 line_4 line_7 line_8 iter
not_where_equal = refl

-- by link 2 from k = 2, where k' is past x; and by link 7 from node 1, which is not reached
pub not_past_x : (t : Variables) → relax net_p q1 2 2 t ≡ t
unfolding net_of problem_one scaled line_7
not_past_x t = refl

pub not_from_∞ : relax net_p q1 0 7 started ≡ started
unfolding net_of problem_one scaled line_1 line_4 line_7 line_8 iter
not_from_∞ = refl

-- link 6 is not usable, and line 24 leaves it out; Relax would not
pub left_out : (t : Variables) → line_24 net_p q1 0 6 t ≡ t
unfolding net_of line_24
left_out t = refl

pub would_reach : (relax net_p q1 0 6 started).d 2 0 ≡ weight 1
unfolding net_of problem_one scaled line_1 line_4 line_7 line_8 iter
would_reach = refl

-- ---- within the bound
pub at_bound : Within 4 (weight 4)
at_bound = omega arith

pub past_bound : Within 4 (weight 5) → ⊥
past_bound h = omega (arith, h)

pub ∞_past_bound : Within 4 ∞ → ⊥
∞_past_bound h = h

-- ---- a link by its number, NIL by that of none
pub link_named : Names net_p (link 3) 3
unfolding net_of
link_named = (refl, omega arith)

pub NIL_named : Names net_p NIL most_links × Names net_p NIL 8
unfolding net_of
NIL_named = (omega arith, omega arith)

-- not by another's number, nor by one that is not in the table
pub other_link : Names net_p (link 3) 4 → ⊥
other_link h = omega (arith, h.0)

pub no_link_named : Names net_p (link 8) 8 → ⊥
unfolding net_of
no_link_named h = omega (arith, h.1)

pub NIL_by_link : Names net_p NIL 0 → ⊥
unfolding net_of
NIL_by_link h = omega (arith, h)

-- ---- entries
-- at the bound; over it, as it is and as ∞; and where the paper has ∞
pub entry : Entry net_p 4 (weight 4) (link 1) 4 1
unfolding net_of
entry = record { number = λ h. refl; predecessor = λ h. (refl, omega arith); over = λ far. absurd (far (omega arith)) }

over_entry : (d : Estimation) (π : Predecessor) (n i : ℕ) → (Within 4 d → ⊥) → 4 < n → Entry net_p 4 d π n i
over_entry d π n i far high = record { number = λ h. absurd (far h); predecessor = λ h. absurd (far h); over = λ _. high }

pub over_as_itself : Entry net_p 4 (weight 6) (link 0) 6 0
over_as_itself = over_entry (weight 6) (link 0) 6 0 (λ h. omega (arith, h)) (omega arith)

pub over_as_∞ : Entry net_p 4 (weight 6) (link 0) 5 most_links
over_as_∞ = over_entry (weight 6) (link 0) 5 most_links (λ h. omega (arith, h)) (omega arith)

pub ∞_entry : Entry net_p 4 ∞ NIL 5 0
∞_entry = over_entry ∞ NIL 5 0 (λ h. h) (omega arith)

-- not another number
abbrev amount : Estimation → ℕ
amount (weight n) = n
amount ∞ = 0

other_amount : (bound n m i : ℕ) (π : Predecessor) → n ≤ bound → Entry net_p bound (weight n) π m i → n ≡ m
other_amount bound n m i π near h = ap amount (h.number near)

pub less_entry : Entry net_p 4 (weight 4) (link 1) 3 1 → ⊥
less_entry h = omega (arith, other_amount 4 4 3 1 (link 1) (omega arith) h)

-- not another link, nor a link for NIL
pub other_entry : Entry net_p 4 (weight 2) (link 3) 2 4 → ⊥
other_entry h = other_link (h.predecessor (omega arith))

pub linked_entry : Entry net_p 4 (weight 0) NIL 0 0 → ⊥
linked_entry h = NIL_by_link (h.predecessor (omega arith))

-- nor a number within the bound where the paper has none
pub near_entry : Entry net_p 4 (weight 6) (link 0) 4 most_links → ⊥
near_entry h = omega (arith, h.over (λ z. omega (arith, z)))

-- ---- tables
ends : Ends net_p
unfolding net_of links_fit
ends = record { tails = λ i low. (fits i low).from; heads = λ i low. (fits i low).to }
  where
    fits : (i : ℕ) → i < 8 → LinkFits (table_of (unheld links_p)) i
    fits = links_says (table_of (unheld links_p)) refl

-- the words of the three cases are the paper's, each for its own problem
left_by : (q : Problem) (l : List ℕ) → q.x ≡ 2 → ebf net_p q 0 nines ≡ l → LeftByPaper net_p q 0 l
unfolding net_of cells
left_by q l x e =
    subst (LeftByPaper net_p q 0) e (ebf_as_paper net_p q ends (omega arith) 0 (omega arith) nines (rw x (omega arith)))

pub tables_left : LeftByPaper net_p q1 0 p1.words × LeftByPaper net_p q2 0 p2.words × LeftByPaper net_p q3 0 p3.words
unfolding net_of problem_one problem_two scaled cell cells filled initialised improved relaxed offered column round rounds ebf iter
tables_left = (left_by q1 p1.words refl refl, left_by q2 p2.words refl refl, left_by q3 p3.words refl refl)

-- not with one word changed: a number, a link, a link for NIL, or a number within the bound where the paper's is over it
pub number_changed : LeftByPaper net_p q2 0 (set p2.words 12 3) → ⊥
unfolding net_of problem_one scaled cell paper.ebf line_1 line_4 line_7 line_8 line_21 line_22 line_23 line_24 iter
number_changed h = less_entry (h before 2 0 (omega arith) (omega arith))

pub link_changed : LeftByPaper net_p q2 0 (set p2.words 7 4) → ⊥
unfolding net_of problem_one scaled cell paper.ebf line_1 line_4 line_7 line_8 line_21 line_22 line_23 line_24 iter
link_changed h = other_entry (h before 1 0 (omega arith) (omega arith))

pub NIL_changed : LeftByPaper net_p q2 0 (set p2.words 1 0) → ⊥
unfolding net_of problem_one scaled cell paper.ebf line_1 line_4 line_7 line_8 line_21 line_22 line_23 line_24 iter
NIL_changed h = linked_entry (h before 0 0 (omega arith) (omega arith))

pub over_changed : LeftByPaper net_p q2 0 (set p2.words 18 4) → ⊥
unfolding net_of problem_one scaled cell paper.ebf line_1 line_4 line_7 line_8 line_21 line_22 line_23 line_24 iter
over_changed h = near_entry (h before 3 0 (omega arith) (omega arith))

-- nor for the greater bound of P1
pub other_bound : LeftByPaper net_p q1 0 p2.words → ⊥
unfolding net_of problem_one scaled cell paper.ebf line_1 line_4 line_7 line_8 line_21 line_22 line_23 line_24 iter
other_bound h = omega (arith, other_amount 6 6 5 most_links (link 0) (omega arith) (h before 3 0 (omega arith) (omega arith)))

-- ---- other orders of the lines, from the same start
abbrev at_first : List ℕ
at_first = initialised net_p q1 0 nines

-- links in falling order: link 4 comes before link 3
abbrev links_falling : List ℕ
links_falling = iter (λ _. iter (λ k. iter (λ j. offered net_p q1 k (7 - j)) 8) 3) 3 at_first

pub links_rise : LeftByPaper net_p q1 0 links_falling → ⊥
unfolding net_of problem_one scaled cell cells filled initialised improved relaxed offered paper.ebf line_1 line_4 line_7 line_8 line_21 line_22 line_23 line_24 iter
links_rise h = other_link ((h before 1 0 (omega arith) (omega arith)).predecessor (omega arith))

-- k falling: link 3 reaches d[1, 1] before link 2
abbrev k_falling : List ℕ
k_falling = iter (λ _. iter (λ j. column net_p q1 (2 - j)) 3) 3 at_first

pub k_rises : LeftByPaper net_p q1 0 k_falling → ⊥
unfolding net_of problem_one scaled cell cells filled initialised improved relaxed offered column paper.ebf line_1 line_4 line_7 line_8 line_21 line_22 line_23 line_24 iter
k_rises h = omega (arith, ((h before 1 1 (omega arith) (omega arith)).predecessor (omega arith)).0)

-- two rounds: d[3, 0] is not reached within the bound
abbrev two_rounds : List ℕ
two_rounds = iter (λ _. round net_p q1) 2 at_first

pub three_rounds : LeftByPaper net_p q1 0 two_rounds → ⊥
unfolding net_of problem_one scaled cell cells filled initialised improved relaxed offered column round paper.ebf line_1 line_4 line_7 line_8 line_21 line_22 line_23 line_24 iter
three_rounds h = omega (arith, other_amount 6 6 7 most_links (link 0) (omega arith) (h before 3 0 (omega arith) (omega arith)))
