-- The outcome of a search keeps its stated result, and depends on the network and the request alone: all that the rooms
-- above know of it. The four outcomes exclude each other, so each refusal is given exactly where
-- its reason holds.
-- Assumes nothing.
use Prim.Native.Nat.{ℕ}
use mathlib.Core.Path.{◌≡◌, refl, ap, ◌∙◌}
use mathlib.Core.Bool.{Bool}
use mathlib.Core.List.{List}
use mathlib.Core.Logic.{◌⊎◌, inl, inr}
use Rattle.network.proofs.Tests.{zero_one}
use Rattle.network.specs.Net.{Net, Walk, sum}
use Rattle.network.specs.Words.{net_of, LinkTable}
use Rattle.network.specs.declared.Request.{Request}
use Rattle.network.specs.declared.answer.Reduction.{Reduction}
use Rattle.network.specs.declared.answer.Reduction.TheVariants.{One, Two}
use Rattle.network.specs.Problem.{NoPath}
use Rattle.network.specs.Reduce.{Outcome, no_path, no_solution, granted, Found}
use Rattle.network.proofs.Bounds.{one_distance, found_within, found_enough}
use Rattle.search.proofs.Alike.{sums_depend}
use Rattle.search.proofs.Heuristic.{search_finds, search_depends}
use Rattle.search.specs.Result.{Ready, Searchable, outcome, Unsolved, GrantedByOne, GrantedByTwo, Result, Alike}
use Rattle.search.proofs.ebf.Outcomes.{net_ends}

module _ (g : Net) (r : Request) where
  -- one problem's number says which problem granted
  granted_one : (o : Outcome) → Found g r o → (p : List ℕ) → o ≡ granted One p → GrantedByOne g r p
  granted_one o (Found.none h) p e = absurd (zero_one cc)
  granted_one o (Found.unsolved k far h h') p e = absurd (zero_one cc)
  granted_one o (Found.by_one k p' far best) p e = let same : p' ≡ p = cc in rw (← same) (k, far, best)
  granted_one o (Found.by_two k p' far h best) p e = absurd (zero_one cc)

  granted_two : (o : Outcome) → Found g r o → (p : List ℕ) → o ≡ granted Two p → GrantedByTwo g r p
  granted_two o (Found.none h) p e = absurd (zero_one cc)
  granted_two o (Found.unsolved k far h h') p e = absurd (zero_one cc)
  granted_two o (Found.by_one k p' far best) p e = absurd (zero_one cc)
  granted_two o (Found.by_two k p' far h best) p e = let same : p' ≡ p = cc in rw (← same) (k, far, h, best)

  granted_either : (o : Outcome) → Found g r o → (which : Reduction) (p : List ℕ) → o ≡ granted which p → (which ≡ One) ⊎ (which ≡ Two)
  granted_either o (Found.none h) which p e = absurd (zero_one cc)
  granted_either o (Found.unsolved k far h h') which p e = absurd (zero_one cc)
  granted_either o (Found.by_one k p' far best) which p e = inl (cc)
  granted_either o (Found.by_two k p' far h best) which p e = inr (cc)

  -- a path, or a solution, excludes the refusals
  says_nowhere : (o : Outcome) → Found g r o → o ≡ no_path → NoPath g r.source r.target
  says_nowhere o (Found.none h) e = h
  says_nowhere o (Found.unsolved k far h h') e = absurd (zero_one cc)
  says_nowhere o (Found.by_one k p far best) e = absurd (zero_one cc)
  says_nowhere o (Found.by_two k p far h best) e = absurd (zero_one cc)

  nowhere_says : NoPath g r.source r.target → (o : Outcome) → Found g r o → o ≡ no_path
  nowhere_says lacks o (Found.none h) = refl
  nowhere_says lacks o (Found.unsolved k far h h') = absurd (lacks _ far.reached.1)
  nowhere_says lacks o (Found.by_one k p far best) = absurd (lacks _ far.reached.1)
  nowhere_says lacks o (Found.by_two k p far h best) = absurd (lacks _ far.reached.1)

  says_unsolved : (o : Outcome) → Found g r o → o ≡ no_solution → Unsolved g r
  says_unsolved o (Found.none h) e = absurd (zero_one cc)
  says_unsolved o (Found.unsolved k far h h') e = (k, far, h, h')
  says_unsolved o (Found.by_one k p far best) e = absurd (zero_one cc)
  says_unsolved o (Found.by_two k p far h best) e = absurd (zero_one cc)

  unsolved_says : Unsolved g r → (o : Outcome) → Found g r o → o ≡ no_solution
  unsolved_says lacks o (Found.none h) = absurd (h _ lacks.1.reached.1)
  unsolved_says lacks o (Found.unsolved k far h h') = refl
  unsolved_says lacks o (Found.by_one k p far best) =
      let same : k ≡ lacks.0 = one_distance g _ _ k lacks.0 far lacks.1 in absurd (lacks.2 p (rw same at best.solves))
  unsolved_says lacks o (Found.by_two k p far h best) =
      let same : k ≡ lacks.0 = one_distance g _ _ k lacks.0 far lacks.1 in absurd (lacks.3 p (rw same at best.solves))

  -- it is what must be found
  pub outcome_found : Searchable g r → Result g r (outcome g r)
  unfolding outcome
  outcome_found ok =
      let found = search_finds g r ok.ends ok.few ok.source ok.target ok.apart in
      record {
        nowhere = (says_nowhere _ found, λ lacks. nowhere_says lacks _ found);
        unsolved = (says_unsolved _ found, λ lacks. unsolved_says lacks _ found);
        by_one = granted_one _ found;
        by_two = granted_two _ found;
        no_other = granted_either _ found;
        within = found_within g r ok.coefficient_some ok.apart _ found;
        enough = found_enough g r ok.coefficient_some ok.apart _ found;
      }

-- it depends, the granted path included, on the network and the request alone, and of the network only on n, which links
-- are usable, the links' ends, delays and costs
pub outcome_depends : (g o : Net) → Alike g o → (r : Request) → outcome g r ≡ outcome o r
unfolding outcome
outcome_depends = search_depends

-- and so do a granted path's totals: it is a path, so its links are links of both networks
module _ (g o : Net) (same : Alike g o) (r : Request) (ok : Searchable g r) where
  granted_walk : (a : Outcome) → Result g r a → (which : Reduction) (p : List ℕ) → a ≡ granted which p → Walk g r.source r.target p
  granted_walk a h which p e = by (h.no_other which p e)
    where
      by : (which ≡ One) ⊎ (which ≡ Two) → Walk g r.source r.target p
      by (inl one) = (h.by_one p (e ∙ ap (λ (k : Reduction). granted k p) one)).2.solves.path.walk
      by (inr two) = (h.by_two p (e ∙ ap (λ (k : Reduction). granted k p) two)).3.solves.path.walk

  pub totals_depend : (which : Reduction) (p : List ℕ) → outcome g r ≡ granted which p
      → (sum g.delay p ≡ sum o.delay p) × (sum g.cost p ≡ sum o.cost p)
  totals_depend which p e = sums_depend g o same r.source r.target p (granted_walk (outcome g r) (outcome_found g r ok) which p e)

-- what the code's `requires` asks of a link table is enough for it
pub ready_searchable : (n m : ℕ) (links : List ℕ) (usable : List Bool) (delays costs work path : List ℕ) (r : Request)
    → LinkTable n m links delays costs
    → Ready n work path r
    → Searchable (net_of n m links usable delays costs) r
unfolding net_of
ready_searchable n m links usable delays costs work path r table h =
    record {
      ends = net_ends n m links usable delays costs table;
      few = table.nodes_most;
      source = h.source;
      target = h.target;
      apart = h.apart;
      coefficient_some = h.terms.coefficient_least;
    }
