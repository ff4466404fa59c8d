-- Answers depend on whether the area is well formed and on its books: each check reads the first, the lengths and numbers that
-- were given, or the books, and the search reads the network that the books show.
-- Assumes nothing.
use Prim.Native.Nat.{ℕ}
use mathlib.Core.Path.{◌≡◌, ap₂}
use mathlib.Core.Bool.{Bool}
use mathlib.Core.List.{List, [], ◌∷◌, ◌++◌}
use Rattle.network.specs.declared.Request.{Request}
use Rattle.search.specs.Result.{outcome, Alike}
use Rattle.search.proofs.Result.{outcome_depends}
use Rattle.area.specs.Books.{Books, net}
use Rattle.area.specs.Formed.{well_formed}
use Rattle.area.specs.Refusals.{refuses}
use Rattle.area.specs.Checks.{◌unless◌, checked}
use Rattle.rules.specs.Replies.{PathReply, ReleaseReply, releases}
use Rattle.rules.specs.Calls.{searched, request_checks, number_checks, quote, admission, release}
use Rattle.rules.specs.Meaning.{books_in}

-- ---- the answers, by whether the area is well formed and by its books
module _ (work path : ℕ) (r : Request) (formed : Bool) (o : Books) where
  abbrev quoted : PathReply
  quoted = checked refuses ((5 unless formed) ∷ request_checks o work path r) (searched o r)

  abbrev admitted : ℕ → PathReply
  admitted c = checked refuses ((5 unless formed) ∷ request_checks o work path r ++ number_checks o c) (searched o r)

abbrev freed : ℕ → Bool → Books → ReleaseReply
freed c formed o = checked refuses ((5 unless formed) ∷ (13 unless (o.holds c)) ∷ []) releases

-- ---- areas with the same books, both well formed or both not
module _ (w w' : List ℕ) where
  pub quote_depends : (work path : ℕ) (r : Request) → well_formed w ≡ well_formed w' → books_in w ≡ books_in w' → quote w work path r ≡ quote w' work path r
  unfolding quote
  quote_depends work path r formed same = ap₂ (quoted work path r) formed same

  pub admission_depends : (work path c : ℕ) (r : Request) → well_formed w ≡ well_formed w' → books_in w ≡ books_in w'
      → admission w work path c r ≡ admission w' work path c r
  unfolding admission
  admission_depends work path c r formed same = ap₂ (λ (b : Bool) (o : Books). admitted work path r b o c) formed same

  pub release_depends : (c : ℕ) → well_formed w ≡ well_formed w' → books_in w ≡ books_in w' → release w c ≡ release w' c
  unfolding release
  release_depends c formed same = ap₂ (freed c) formed same

-- ---- the search
-- the granted path and its problem depend on n, which links are usable, the links' ends, delays and costs
pub choice_depends : (o o' : Books) (r : Request) → Alike (net o r) (net o' r)
    → outcome (net o r) r ≡ outcome (net o' r) r
choice_depends o o' r alike = outcome_depends (net o r) (net o' r) alike r
