-- The test of a request, one answer for each of the code's returns: an end that is no node, or equal ends, make it false,
-- and past these its terms decide.
-- Assumes nothing.
use Prim.Native.Nat.{ℕ, ◌≤◌, ◌<◌}
use mathlib.Core.Path.{◌≡◌, refl}
use mathlib.Core.Bool.{false}
use borrow.Author.Tests.{le-ltb, lt-ltb, eq-eqb, ne_eqb}
use Rattle.network.specs.declared.Request.{Request}
use Rattle.network.specs.Ranges.{terms_fit}
use Rattle.rules.specs.Requests.{request_fits}

module _ (n : ℕ) (r : Request) where
  -- ---- the ends
  pub source_high : n ≤ r.source → false ≡ request_fits n r
  unfolding request_fits
  source_high h = rw (le-ltb r.source n h) refl

  module _ (a : r.source < n) where
    pub target_high : n ≤ r.target → false ≡ request_fits n r
    unfolding request_fits
    target_high h = rw (lt-ltb r.source n a, le-ltb r.target n h) refl

    module _ (b : r.target < n) where
      pub same_ends : r.source ≡ r.target → false ≡ request_fits n r
      unfolding request_fits
      same_ends h = rw (lt-ltb r.source n a, lt-ltb r.target n b, eq-eqb r.source r.target h) refl

      -- ---- the terms
      pub terms_left : (r.source ≡ r.target → ⊥) → terms_fit r.terms ≡ request_fits n r
      unfolding request_fits
      terms_left d = rw (lt-ltb r.source n a, lt-ltb r.target n b, ne_eqb r.source r.target d) refl
