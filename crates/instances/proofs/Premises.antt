-- What the functions below the calls rely on can be met, and is not always met.
-- Assumes nothing.
use Prim.Native.Nat.{ℕ, zero, suc, ◌+◌, ◌*◌, ◌-◌, ◌≤◌}
use mathlib.Core.Path.{◌≡◌, refl, sym, ap}
use mathlib.Core.Bool.{true, false, true≢false}
use mathlib.Core.List.{[], ◌∷◌}
use native.Mathlib.Omega.{arith}
use lib.ListN.{replicate, get_or, length-replicate, get_or-eq_default}
use Rattle.network.specs.Reduce.{asking}
use Rattle.area.specs.Station.{table_in, circuit_of}
use Rattle.area.specs.Formed.{words_fit, place_fits, places_fit}
use Rattle.area.specs.FreeIn.{free_in}
use Rattle.rules.specs.Requests.{request_fits}
use Rattle.rules.specs.SearchableArea.{SearchableArea}
use Rattle.cases.specs.Document01.{links_a, m3}
use Rattle.instances.specs.Areas.{fresh_a, held_a, two_a, before_a}
use Rattle.instances.specs.Calls.{work, path}

-- ---- circuits that fit: the first of net A with circuit 7, and not a second
pub held : (places_fit 4 links_a held_a 1 ≡ true) × (places_fit 4 links_a held_a 2 ≡ false)
unfolding places_fit held_a circuit_of
held = (refl, refl)

pub places : (place_fits 4 links_a held_a 0 ≡ true) × (place_fits 4 links_a held_a 1 ≡ false)
unfolding place_fits held_a circuit_of
places = (refl, refl)

-- the second circuit's words fit behind a lower number, and not behind a higher one
pub behind : (words_fit (two_a 8 10) 1 ≡ true) × (words_fit (before_a 8 10) 1 ≡ false)
unfolding words_fit two_a before_a circuit_of
behind = (refl, refl)

-- ---- each link's free units, and not none at all
-- none past the table's end
past : (i : ℕ) → 4 ≤ i → 0 ≡ free_in fresh_a i
unfolding free_in fresh_a table_in
past i high = ap (λ (v : ℕ). v - 0) (sym (get_or-eq_default links_a 0 {n = 5 * i + 4} (omega arith)))

pub free_units : (i : ℕ) → get_or (10 ∷ 10 ∷ 10 ∷ 10 ∷ []) i 0 ≡ free_in fresh_a i
unfolding free_in fresh_a table_in
free_units zero = refl
free_units (suc zero) = refl
free_units (suc (suc zero)) = refl
free_units (suc (suc (suc zero))) = refl
free_units (suc (suc (suc (suc i)))) = past (suc (suc (suc (suc i)))) (omega arith)

pub not_free : ((i : ℕ) → get_or [] i 0 ≡ free_in fresh_a i) → ⊥
not_free h = omega (arith, h 0, free_units 0)

-- ---- a request that may be searched for on an area: with enough work memory, and not with a word less, nor from a node
-- to itself
pub searchable_area : SearchableArea fresh_a (work 0) (path 0) m3
unfolding request_fits fresh_a
searchable_area =
    record { memory = omega (arith, length-replicate {A = ℕ} 16384 0); buffer = omega arith; request = refl }

pub not_searchable : SearchableArea fresh_a (replicate 16383 0) (path 0) m3 → ⊥
not_searchable h = omega (arith, h.memory, length-replicate {A = ℕ} 16383 0)

pub itself_not_searchable : SearchableArea fresh_a (work 0) (path 0) (asking 0 0 1 8 20 8) → ⊥
unfolding request_fits fresh_a
itself_not_searchable h = true≢false (sym h.request)
