-- Which requests are taken: document 01's ranges, as a statement and as the test that the code runs.
-- Assumes nothing.
use Rattle.std.specs.Prelude.{ℕ, ◌<◌, ◌≡◌, Bool, not, ◌&&◌, ltb, eqb}
use Rattle.network.specs.declared.Request.{Request}
use Rattle.network.specs.Reduce.{TermsInRange}
use Rattle.network.specs.Ranges.{terms_fit}

-- a request among n nodes
pub record RequestFits (n : ℕ) (r : Request) : Type 0 where
  pub source : r.source < n
  pub target : r.target < n
  pub apart : r.source ≡ r.target → ⊥
  pub terms : TermsInRange r

unfoldable pub request_fits : ℕ → Request → Bool
unfolding terms_fit
request_fits n r =
    ltb r.source n && (ltb r.target n && (not (eqb r.source r.target)
    && terms_fit r.terms))
