-- Class tables: what is one and what is not, what each call on one may answer and what it may not, and that a given row's
-- request is one that check 8 takes.
-- Assumes nothing.
use Prim.Native.Nat.{ℕ, ◌+◌}
use mathlib.Core.Path.{◌≡◌, refl, ap}
use mathlib.Core.List.{List, [], ◌∷◌, ◌++◌}
use mathlib.Core.Logic.{inl, inr}
use native.Mathlib.Omega.{arith}
use lib.ListN.{replicate}
use Rattle.network.specs.Limits.{most_coefficient}
use Rattle.area.specs.Refusals.{refuses, grants}
use Rattle.area.specs.Station.{station, table_in}
use Rattle.area.specs.Books.{books}
use Rattle.network.specs.declared.Terms.{Terms}
use Rattle.rules.specs.Requests.{RequestFits}
use Rattle.rules.specs.Calls.{quote}
use Rattle.network.specs.Reduce.{asks}
use Rattle.rules.specs.ClassTable.{request_between, WholeRows, RowFits, RowsFit, ClassTable}
use Rattle.rules.specs.Classes.{CheckMeans, ClassMeans, class_answer}
use Rattle.rules.specs.SampleClasses.{sample}
use Rattle.rules.proofs.Classes.{accepts_exactly, given_taken, quote_not_eight}
use Rattle.rules.proofs.SampleClasses.{sample_accepted}
use Rattle.cases.specs.Document01.{net_a}

-- ---- a class table
pub sample_table : ClassTable sample
sample_table = (accepts_exactly sample).0 sample_accepted

-- one row whose coefficient is over its range
abbrev steep : List ℕ
steep = 1 ∷ 400 ∷ 60 ∷ (most_coefficient + 1) ∷ []

-- its words are a row's, and its numbers are not
pub steep_whole : WholeRows steep
steep_whole = record { some = omega arith; few = omega arith; whole = refl }

pub steep_no_fit : RowsFit steep → ⊥
steep_no_fit h = omega (arith, (h 0 (omega arith)).coefficient_most)

pub steep_no_table : ClassTable steep → ⊥
steep_no_table h = steep_no_fit h.each

-- the numbers of a row that is not the first count too
pub second_no_fit : RowsFit (sample ++ steep) → ⊥
second_no_fit h = omega (arith, (h 6 (omega arith)).coefficient_most)

-- a word count that is zero, over the most or no whole rows
pub empty_no_rows : WholeRows [] → ⊥
empty_no_rows h = omega (arith, h.some)

pub long_no_rows : WholeRows (replicate 260 1) → ⊥
long_no_rows h = omega (arith, h.few)

pub three_no_row : WholeRows (replicate 3 1) → ⊥
three_no_row h = omega (arith, h.whole)

-- a row
pub card_fits : RowFits (asks 1 400 60 8)
card_fits = sample_table.each 0 (omega arith)

pub no_units_no_fit : RowFits (asks 0 400 60 8) → ⊥
no_units_no_fit h = omega (arith, h.units_least)

-- ---- what the check may answer
pub sample_means : CheckMeans sample (grants tt)
sample_means = sample_table

pub sample_not_refused : CheckMeans sample (refuses 20) → ⊥
sample_not_refused (inl h) = h.0 sample_table.counted
sample_not_refused (inr (_, inl h)) = h.0 sample_table.each
sample_not_refused (inr (_, inr (_, h))) = h

pub steep_means : CheckMeans steep (refuses 21)
steep_means = inr (λ lacks. lacks steep_whole, inl (steep_no_fit, refl))

pub steep_not_accepted : CheckMeans steep (grants tt) → ⊥
steep_not_accepted = steep_no_table

-- 21 does not come where 20 applies
pub empty_not_by_range : CheckMeans [] (refuses 21) → ⊥
empty_not_by_range (inl (_, e)) = omega (arith, e)
empty_not_by_range (inr (whole, _)) = whole empty_no_rows

-- ---- what the class call may answer
-- pictures is the last class of the sample table
pub pictures : class_answer sample 5 ≡ grants (asks 16 3000 600 2)
unfolding class_answer
pictures = refl

pub pictures_mean : ClassMeans sample 5 (grants (asks 16 3000 600 2))
pictures_mean = (sample_table, omega arith, refl)

-- another row is not its answer, nor is a row past the last
pub pictures_no_card : ClassMeans sample 5 (grants (asks 1 400 60 8)) → ⊥
pictures_no_card h = omega (arith, ap (λ (s : Terms). s.units) h.2)

pub seventh_no_row : (s : Terms) → ClassMeans sample 6 (grants s) → ⊥
seventh_no_row s h = omega (arith, h.1)

pub sixteen : class_answer sample 6 ≡ refuses 16
unfolding class_answer
sixteen = refl

-- 16 does not come where the table is refused
pub steep_not_sixteen : ClassMeans steep 9 (refuses 16) → ⊥
steep_not_sixteen (inl (_, e)) = omega (arith, e)
steep_not_sixteen (inr (_, inl (_, e))) = omega (arith, e)
steep_not_sixteen (inr (_, inr (fit, _))) = fit steep_no_fit

-- ---- a given row between two nodes of four
pub pictures_taken : RequestFits 4 (request_between 0 3 (asks 16 3000 600 2))
pictures_taken = given_taken sample 5 (asks 16 3000 600 2) pictures 0 3 (λ e. omega (arith, e)) 4 (omega arith) (omega arith)

-- not from a node to itself
pub same_node_not_taken : RequestFits 4 (request_between 3 3 (asks 16 3000 600 2)) → ⊥
same_node_not_taken h = h.apart refl

-- so no quote of it on net A is refused with 8, whatever it is lent
pub pictures_not_eight : (work path : ℕ) → quote net_a work path (request_between 0 3 (asks 16 3000 600 2)) ≡ refuses 8 → ⊥
unfolding net_a books station table_in
pictures_not_eight work path =
    quote_not_eight sample 5 (asks 16 3000 600 2) pictures 0 3 (λ e. omega (arith, e)) net_a work path (omega arith) (omega arith)
