-- The rules of the calls by the books alone, in document 01's order, and what a grant must be: no algorithm, and no words
-- of an area. Meaning.antt reads them on an area; the ledger of the crate `ledger` reads them on its entries.
-- Assumes nothing.
use Rattle.std.specs.Prelude.{ℕ, ◌≤◌, ◌<◌, ◌≡◌, false, List, [], ◌∷◌, ◌⊎◌}
use Rattle.network.specs.Limits.{path_words, work_words}
use Rattle.network.specs.Net.{Net, sum}
use Rattle.network.specs.Problem.{NoPath}
use Rattle.network.specs.declared.Request.{Request}
use Rattle.network.specs.declared.answer.Reduction.TheVariants.{One, Two}
use Rattle.search.specs.Result.{Unsolved, GrantedByOne, GrantedByTwo}
use Rattle.area.specs.Layout.{least_number, most_circuits, most_number}
use Rattle.area.specs.Books.{Books}
use Rattle.area.specs.Refusals.{Rule, ◌when◌}
use Rattle.rules.specs.Requests.{RequestFits}
use Rattle.rules.specs.Replies.{PathGrant}

module _ (g : Net) (r : Request) where
  -- what a grant is: problem 1 with a best solution of problem one; or problem 2, where problem one has none, with a best
  -- solution of problem two; the delay and the cost are the path's own sums
  pub record Grant (a : PathGrant) : Type 0 where
    pub least : ((a.problem ≡ One) × GrantedByOne g r a.path) ⊎ ((a.problem ≡ Two) × GrantedByTwo g r a.path)
    pub delay : a.delay ≡ sum g.delay a.path
    pub cost : a.cost ≡ sum g.cost a.path

  -- 9 if no usable path exists; 10 if one exists but neither problem has a solution
  abbrev pub search_rules : List Rule
  search_rules = (9 when NoPath g r.source r.target) ∷ (10 when Unsolved g r) ∷ []

-- a circuit number that an admission takes: in its range and not held
pub record NumberFits (o : Books) (c : ℕ) : Type 0 where
  pub least : least_number ≤ c
  pub most : c ≤ most_number
  pub new : o.holds c ≡ false

-- the rules that ask for the books alone: those of a request, with the lengths of work memory and path buffer
abbrev pub request_rules : Books → ℕ → ℕ → Request → List Rule
request_rules o work path r =
    (6 when work < work_words) ∷ (7 when path < path_words) ∷ (8 when (RequestFits o.table.nodes r → ⊥)) ∷ []

-- and those of a circuit number
abbrev pub number_rules : Books → ℕ → List Rule
number_rules o c = (11 when (NumberFits o c → ⊥)) ∷ (12 when most_circuits ≤ o.count) ∷ []

-- and that of a release
abbrev pub release_rules : Books → ℕ → List Rule
release_rules o c = (13 when o.holds c ≡ false) ∷ []
