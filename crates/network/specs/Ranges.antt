-- Ranges of numbers, and those of a request's units, bounds and coefficient: the terms that a job asks for, whatever its
-- nodes. Whatever checks them goes by this one statement, or by the one test beside it.
-- Assumes nothing.
use Rattle.std.specs.Prelude.{ℕ, ◌≤◌, Bool, ◌&&◌, leb}
use Rattle.network.specs.declared.Terms.{Terms}
use Rattle.network.specs.Limits.{least_units, most_units, least_bound, most_delay_bound, most_cost_bound, least_coefficient, most_coefficient}

-- is n from low to high
abbrev pub in_range : ℕ → ℕ → ℕ → Bool
in_range low high n = leb low n && leb n high

-- the units, the bounds D and C and the coefficient are in document 01's ranges: as a statement, and as the test that the
-- code runs
pub record TermsFit (t : Terms) : Type 0 where
  pub units_least : least_units ≤ t.units
  pub units_most : t.units ≤ most_units
  pub delay_least : least_bound ≤ t.delay_bound
  pub delay_most : t.delay_bound ≤ most_delay_bound
  pub cost_least : least_bound ≤ t.cost_bound
  pub cost_most : t.cost_bound ≤ most_cost_bound
  pub coefficient_least : least_coefficient ≤ t.coefficient
  pub coefficient_most : t.coefficient ≤ most_coefficient

unfoldable pub terms_fit : Terms → Bool
terms_fit t =
    in_range least_units most_units t.units && (in_range least_bound most_delay_bound t.delay_bound
    && (in_range least_bound most_cost_bound t.cost_bound && in_range least_coefficient most_coefficient t.coefficient))
