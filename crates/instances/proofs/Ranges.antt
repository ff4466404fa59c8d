-- A request's terms: the least and the greatest of every range are taken, bounds of 0 among them, and one less or one more is
-- not; nothing is less than a bound of 0.
-- Assumes nothing.
use Prim.Native.Nat.{◌+◌, ◌-◌}
use mathlib.Core.Path.{◌≡◌, refl}
use mathlib.Core.Bool.{true, false}
use native.Mathlib.Omega.{arith}
use Rattle.network.specs.Limits.{least_units, most_units, least_bound, most_delay_bound, most_cost_bound, least_coefficient, most_coefficient}
use Rattle.network.specs.Ranges.{in_range, TermsFit, terms_fit}
use Rattle.network.specs.Reduce.{asks}
use Rattle.network.proofs.Ranges.{terms_says}

pub in_range_lem : (in_range 2 32 2 ≡ true) × (in_range 2 32 32 ≡ true) × (in_range 2 32 1 ≡ false) × (in_range 2 32 33 ≡ false)
in_range_lem = (refl, refl, refl, refl)

-- M3's
pub m3_terms : TermsFit (asks 1 8 20 8)
unfolding terms_fit
m3_terms = terms_says (asks 1 8 20 8) refl

pub least_terms : TermsFit (asks least_units least_bound least_bound least_coefficient)
unfolding terms_fit
least_terms = terms_says (asks least_units least_bound least_bound least_coefficient) refl

pub most_terms : TermsFit (asks most_units most_delay_bound most_cost_bound most_coefficient)
unfolding terms_fit
most_terms = terms_says (asks most_units most_delay_bound most_cost_bound most_coefficient) refl

-- in figures: no greater delay bound than 61,000,000 is taken
pub most_delay_taken : TermsFit (asks 1 61000000 20 8)
unfolding terms_fit
most_delay_taken = terms_says (asks 1 61000000 20 8) refl

pub more_delay_not_taken : TermsFit (asks 1 61000001 20 8) → ⊥
more_delay_not_taken h = omega (arith, h.delay_most)

-- a job that may cost nothing, one that may take no time, and one with both
pub no_cost : TermsFit (asks 1 8 0 8)
unfolding terms_fit
no_cost = terms_says (asks 1 8 0 8) refl

pub no_delay : TermsFit (asks 1 0 20 8)
unfolding terms_fit
no_delay = terms_says (asks 1 0 20 8) refl

pub neither : TermsFit (asks 1 0 0 8)
unfolding terms_fit
neither = terms_says (asks 1 0 0 8) refl

-- the others are M3's
pub no_units : TermsFit (asks (least_units - 1) 8 20 8) → ⊥
no_units h = omega (arith, h.units_least)

pub many_units : TermsFit (asks (most_units + 1) 8 20 8) → ⊥
many_units h = omega (arith, h.units_most)

pub delay_bound_over : TermsFit (asks 1 (most_delay_bound + 1) 20 8) → ⊥
delay_bound_over h = omega (arith, h.delay_most)

pub cost_bound_over : TermsFit (asks 1 8 (most_cost_bound + 1) 8) → ⊥
cost_bound_over h = omega (arith, h.cost_most)

pub coefficient_over : TermsFit (asks 1 8 20 (most_coefficient + 1)) → ⊥
coefficient_over h = omega (arith, h.coefficient_most)
