-- A range's test says what its statement says, and so do those of a request's terms.
-- Assumes nothing.
use Prim.Native.Nat.{ℕ, ◌≤◌}
use mathlib.Core.Path.{◌≡◌}
use mathlib.Core.Bool.{Bool, true}
use lib.Dec.{leb}
use borrow.Author.Tests.{leb-true, le-leb}
use Rattle.network.specs.declared.Terms.{Terms}
use Rattle.network.specs.Limits.{least_units, most_units, least_bound, most_delay_bound, most_cost_bound, least_coefficient, most_coefficient}
use Rattle.network.specs.Ranges.{in_range, TermsFit, terms_fit}
use Rattle.network.proofs.Tests.{both, fst_of, snd_of}

pub range_says : (low high n : ℕ) → in_range low high n ≡ true → (low ≤ n) × (n ≤ high)
range_says low high n e = (leb-true low n (fst_of (leb low n) _ e), leb-true n high (snd_of (leb low n) _ e))

pub range_test : (low high n : ℕ) → low ≤ n → n ≤ high → in_range low high n ≡ true
range_test low high n l h = both (leb low n) _ (le-leb low n l) (le-leb n high h)

-- ---- a request's terms
module _ (t : Terms) where
  abbrev units_in : Bool
  units_in = in_range least_units most_units t.units

  abbrev delay_in : Bool
  delay_in = in_range least_bound most_delay_bound t.delay_bound

  abbrev cost_in : Bool
  cost_in = in_range least_bound most_cost_bound t.cost_bound

  abbrev coefficient_in : Bool
  coefficient_in = in_range least_coefficient most_coefficient t.coefficient

  pub terms_says : terms_fit t ≡ true → TermsFit t
  unfolding terms_fit
  terms_says e =
      let e1 = snd_of units_in _ e in
      let e2 = snd_of delay_in _ e1 in
      let u = range_says least_units most_units t.units (fst_of units_in _ e) in
      let d = range_says least_bound most_delay_bound t.delay_bound (fst_of delay_in _ e1) in
      let c = range_says least_bound most_cost_bound t.cost_bound (fst_of cost_in _ e2) in
      let f = range_says least_coefficient most_coefficient t.coefficient (snd_of cost_in _ e2) in
      record {
        units_least = u.0;
        units_most = u.1;
        delay_least = d.0;
        delay_most = d.1;
        cost_least = c.0;
        cost_most = c.1;
        coefficient_least = f.0;
        coefficient_most = f.1;
      }

  pub terms_test : TermsFit t → terms_fit t ≡ true
  unfolding terms_fit
  terms_test h =
      both units_in _ (range_test least_units most_units t.units h.units_least h.units_most)
      (both delay_in _ (range_test least_bound most_delay_bound t.delay_bound h.delay_least h.delay_most)
      (both cost_in _ (range_test least_bound most_cost_bound t.cost_bound h.cost_least h.cost_most)
      (range_test least_coefficient most_coefficient t.coefficient h.coefficient_least h.coefficient_most)))
