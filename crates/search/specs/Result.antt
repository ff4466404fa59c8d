-- The stated result of the route search, on which everything above the search rests and on nothing else of it: what it
-- relies on, what it finds and answers, and what that may depend on. It names no table; `outcome` is opened only where a
-- case is computed.
-- Assumes nothing.
use Rattle.std.specs.Prelude.{ℕ, ◌≤◌, ◌<◌, ◌≡◌, List, ◌++◌, ◌⊎◌, ◌↔◌, length, drop, Ok, Err, Result as Answer}
use Rattle.network.specs.Limits.{most_nodes, path_words, work_words}
use Rattle.network.specs.Net.{Net, Ends, IsPath, sum}
use Rattle.network.specs.Problem.{Best, NoPath, NoSolution, Distance}
use Rattle.network.specs.declared.Request.{Request}
use Rattle.network.specs.declared.Grant.{Grant}
use Rattle.network.specs.declared.answer.NoRoute.{NoRoute}
use Rattle.network.specs.declared.answer.NoRoute.TheVariants as why
use Rattle.network.specs.declared.answer.Reduction.{Reduction}
use Rattle.network.specs.declared.answer.Reduction.TheVariants.{One, Two}
use Rattle.network.specs.Reduce.{TermsInRange, one, two, WithinBounds, Enough, Outcome, no_path, no_solution, granted}
use Rattle.search.specs.Heuristic.{search}

-- ---- what it relies on
-- the ranges and lengths that `route::search` requires, of a network of n nodes; the upper crate checks them before it
-- searches
pub record Ready (n : ℕ) (work path : List ℕ) (r : Request) : Type 0 where
  pub memory : work_words ≤ length work
  pub buffer : path_words ≤ length path
  pub source : r.source < n
  pub target : r.target < n
  pub apart : r.source ≡ r.target → ⊥
  pub terms : TermsInRange r

-- a network and a request that may be searched for: document 01's ranges, as far as the result needs them
pub record Searchable (g : Net) (r : Request) : Type 0 where
  pub ends : Ends g
  pub few : g.nodes ≤ most_nodes
  pub source : r.source < g.nodes
  pub target : r.target < g.nodes
  pub apart : r.source ≡ r.target → ⊥
  pub coefficient_some : 0 < r.terms.coefficient

-- ---- what it finds
-- the outcome of a search: a function of the network and the request alone
unfoldable pub outcome : Net → Request → Outcome
unfolding search
outcome g r = search g r

module _ (g : Net) (r : Request) where
  -- a path exists, at distance k, and neither problem has a solution
  abbrev pub Unsolved : Type 0
  Unsolved =
      (k : ℕ) × Distance g r.source r.target k × NoSolution g (one g r k) r.source r.target
      × NoSolution g (two g r k) r.source r.target

  -- p is a best solution of problem one
  abbrev pub GrantedByOne : List ℕ → Type 0
  GrantedByOne p = (k : ℕ) × Distance g r.source r.target k × Best g (one g r k) r.source r.target p

  -- problem one has no solution, and p is a best solution of problem two
  abbrev pub GrantedByTwo : List ℕ → Type 0
  GrantedByTwo p =
      (k : ℕ) × Distance g r.source r.target k × NoSolution g (one g r k) r.source r.target
      × Best g (two g r k) r.source r.target p

  pub record Result (o : Outcome) : Type 0 where
    -- the refusals, exactly
    pub nowhere : (o ≡ no_path) ↔ NoPath g r.source r.target
    pub unsolved : (o ≡ no_solution) ↔ Unsolved
    -- the grants
    pub by_one : (p : List ℕ) → o ≡ granted One p → GrantedByOne p
    pub by_two : (p : List ℕ) → o ≡ granted Two p → GrantedByTwo p
    pub no_other : (which : Reduction) (p : List ℕ) → o ≡ granted which p → (which ≡ One) ⊎ (which ≡ Two)
    -- Theorem 1: both original bounds are met
    pub within : (which : Reduction) (p : List ℕ) → o ≡ granted which p → WithinBounds g r p
    -- Theorem 2: an overqualified path is always enough
    pub enough : (k : ℕ) → Distance g r.source r.target k → (p : List ℕ) → IsPath g r.source r.target p → Enough g r k p
        → (which : Reduction) × (path : List ℕ) × (o ≡ granted which path)

-- ---- what it depends on
-- two networks that agree in all that a search may depend on: document 01's n, which links are usable, the links' ends,
-- delays and costs
pub record Alike (g o : Net) : Type 0 where
  pub nodes : g.nodes ≡ o.nodes
  pub links : g.links ≡ o.links
  pub tail : (i : ℕ) → i < g.links → g.tail i ≡ o.tail i
  pub head : (i : ℕ) → i < g.links → g.head i ≡ o.head i
  pub usable : (i : ℕ) → i < g.links → g.usable i ≡ o.usable i
  pub delay : (i : ℕ) → i < g.links → g.delay i ≡ o.delay i
  pub cost : (i : ℕ) → i < g.links → g.cost i ≡ o.cost i

-- ---- what it answers
-- the code's answer for each outcome: the totals are the path's own sums
unfoldable pub search_answer_of : Net → Outcome → Answer Grant NoRoute
search_answer_of g no_path = Err why.NoPath
search_answer_of g no_solution = Err why.NoSolution
search_answer_of g (granted which p) =
    Ok (record { problem = which; delay = sum g.delay p; cost = sum g.cost p; links = length p })

-- a granted path stands in the first words of the path buffer, the others keep theirs; else no word changes
unfoldable pub path_after : Outcome → List ℕ → List ℕ
path_after no_path l = l
path_after no_solution l = l
path_after (granted which p) l = p ++ drop (length p) l
