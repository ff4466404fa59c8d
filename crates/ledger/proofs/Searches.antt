-- What the rules of the search say of a reply, in the demands' words: refused exactly when nothing solves, granted where
-- a path is overqualified, and a granted path meets both bounds; with a bound of 0 refused exactly when no path meets both.
-- Assumes nothing.
use Prim.Native.Nat.{ℕ, ◌*◌, ◌<◌}
use mathlib.Core.Path.{◌≡◌, refl, sym, subst}
use mathlib.Core.List.{List}
use mathlib.Core.Logic.{◌⊎◌, inl, inr, ◌↔◌}
use Rattle.network.specs.Net.{Net, IsPath}
use Rattle.network.specs.Problem.{Solves, Distance}
use Rattle.network.specs.Reduce.{one, two, WithinBounds}
use Rattle.network.specs.declared.Request.{Request}
use Rattle.network.specs.declared.answer.Reduction.{Reduction}
use Rattle.network.specs.declared.answer.Reduction.TheVariants.{One, Two}
use Rattle.network.proofs.Bounds.{x_some, one_distance, solution_one_within, solution_two_within, overqualified_solves_one, overqualified_solves_two, costless_solves_one, delayless_solves_two}
use Rattle.search.specs.Result.{Unsolved, GrantedByOne, GrantedByTwo}
use Rattle.area.specs.Refusals.{refuses, grants, IsRefused, IsGranted, Answered}
use Rattle.rules.specs.Requests.{RequestFits}
use Rattle.rules.specs.Replies.{PathGrant, PathReply}
use Rattle.rules.specs.Allowed.{Grant, search_rules}
use Rattle.rules.proofs.Facts.{granted_not_refused}
use Rattle.ledger.specs.Sentences.{Solvable, Overqualifies, Feasible, ZeroBound}
use Rattle.ledger.specs.Demand.{GrantedPath}

module _ (g : Net) (r : Request) where
  -- ---- grants
  grant_solvable : (a : PathGrant) → Grant g r a → Solvable g r
  grant_solvable a h = go h.least
    where
      go : ((a.problem ≡ One) × GrantedByOne g r a.path) ⊎ ((a.problem ≡ Two) × GrantedByTwo g r a.path) → Solvable g r
      go (inl (e, b)) = (b.0, b.1, (a.path, inl b.2.solves))
      go (inr (e, b)) = (b.0, b.1, (a.path, inr b.3.solves))

  -- ---- refusals
  unsolvable : Unsolved g r → Solvable g r → ⊥
  unsolvable (k, far, none, nor) (l, far', (p, inl h)) =
      none p (subst (λ (m : ℕ). Solves g (one g r m) r.source r.target p) (one_distance g _ _ l k far' far) h)
  unsolvable (k, far, none, nor) (l, far', (p, inr h)) =
      nor p (subst (λ (m : ℕ). Solves g (two g r m) r.source r.target p) (one_distance g _ _ l k far' far) h)

  -- refused exactly when no usable path solves either problem
  pub search_exactly : (a : PathReply) → Answered (Grant g r) (search_rules g r) a → IsRefused a ↔ (Solvable g r → ⊥)
  search_exactly (refuses number) (inl (none, e)) = (λ _ s. none s.1.reached.0 s.1.reached.1, λ _. (number, refl))
  search_exactly (refuses number) (inr (_, inl (none, e))) = (λ _. unsolvable none, λ _. (number, refl))
  search_exactly (refuses number) (inr (_, inr (_, h))) = absurd h
  search_exactly (grants b) h =
      (λ refused. absurd (granted_not_refused b refused.0 (sym refused.1)), λ none. absurd (none (grant_solvable b h.1)))

  module _ (n : ℕ) (fits : RequestFits n r) where
    some : (k : ℕ) → Distance g r.source r.target k → 0 < r.terms.coefficient * k
    some = x_some g r fits.terms.coefficient_least fits.apart

    -- Theorem 2
    overqualified_solvable : Overqualifies g r → Solvable g r
    overqualified_solvable (k, far, (p, path, inl h)) =
        (k, far, (p, inl (overqualified_solves_one g r (r.terms.coefficient * k) p (some k far) path h.0 h.1)))
    overqualified_solvable (k, far, (p, path, inr h)) =
        (k, far, (p, inr (overqualified_solves_two g r (r.terms.coefficient * k) p (some k far) path h.0 h.1)))

    -- an overqualified path is always enough
    pub search_enough : (a : PathReply) → Answered (Grant g r) (search_rules g r) a → Overqualifies g r → IsGranted a
    search_enough (refuses number) (inl (none, e)) o = absurd (none o.2.0 o.2.1)
    search_enough (refuses number) (inr (_, inl (none, e))) o = absurd (unsolvable none (overqualified_solvable o))
    search_enough (refuses number) (inr (_, inr (_, h))) o = absurd h
    search_enough (grants b) h o = (b, refl)

    -- a best solution of either problem is a path within both bounds
    by_either : (p : List ℕ) (which : Reduction) → ((which ≡ One) × GrantedByOne g r p) ⊎ ((which ≡ Two) × GrantedByTwo g r p)
        → IsPath g r.source r.target p × WithinBounds g r p
    by_either p which (inl (e, h)) =
        (h.2.solves.path, solution_one_within g r (r.terms.coefficient * h.0) p (some h.0 h.1) h.2.solves)
    by_either p which (inr (e, h)) =
        (h.3.solves.path, solution_two_within g r (r.terms.coefficient * h.0) p (some h.0 h.1) h.3.solves)

    -- a granted path is one that meets both
    granted_feasible : (a : PathGrant) → Grant g r a → Feasible g r
    granted_feasible a h = let so = by_either a.path a.problem h.least in (a.path, so.0, so.1)

    -- With a bound of 0 no such path is passed over: it has none of that weight, so it solves the problem that scales it.
    unsolved_infeasible : ZeroBound r → Unsolved g r → Feasible g r → ⊥
    unsolved_infeasible (inl nought) (k, far, none, nor) (p, path, h) = nor p (delayless_solves_two g r (r.terms.coefficient * k) p nought path h)
    unsolved_infeasible (inr nought) (k, far, none, nor) (p, path, h) = none p (costless_solves_one g r (r.terms.coefficient * k) p nought path h)

    -- so it is refused exactly when no usable path meets both bounds
    pub zero_exactly : ZeroBound r → (a : PathReply) → Answered (Grant g r) (search_rules g r) a → IsRefused a ↔ (Feasible g r → ⊥)
    zero_exactly zero (refuses number) (inl (none, e)) = (λ _ s. none s.0 s.1, λ _. (number, refl))
    zero_exactly zero (refuses number) (inr (_, inl (none, e))) = (λ _. unsolved_infeasible zero none, λ _. (number, refl))
    zero_exactly zero (refuses number) (inr (_, inr (_, h))) = absurd h
    zero_exactly zero (grants b) h =
        (λ refused. absurd (granted_not_refused b refused.0 (sym refused.1)), λ none. absurd (none (granted_feasible b h.1)))

    -- the second demand, of one granted path
    pub grant_path_granted : (a : PathGrant) → Grant g r a → GrantedPath g r a
    grant_path_granted a h =
        let so = by_either a.path a.problem h.least in
        record {
          runs = so.0.walk;
          once = so.0.distinct;
          bounds = so.1;
          least = h.least;
          delay = h.delay;
          cost = h.cost;
        }
