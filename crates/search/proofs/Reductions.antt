-- Both problems of a request: a reduced problem with the request's edges and its weights in their roles answers what the
-- request's own answers, and the first answer stands unless it is no solution.
-- Assumes nothing.
use mathlib.Core.Path.{◌≡◌, refl, sym, ap, ◌∙◌}
use mathlib.Core.Bool.{Bool}
use mathlib.Core.List.{List}
use lib.ListN.{length}
use Prim.Native.Nat.{ℕ, ◌*◌, ◌-◌, ◌≤◌, ◌<◌}
use native.Mathlib.Nat.{mul-le-mul}
use native.Mathlib.Omega.{arith}
use borrow.Author.Tests.{lt-ltb, le-ltb}
use Rattle.std.specs.Prelude.{Option, Some, None, Err, Result as Answer}
use Rattle.network.specs.Limits.{most_bound, most_coefficient, most_nodes, most_weight, most_x}
use Rattle.network.specs.Net.{Net}
use Rattle.network.specs.Words.{net_of, LinkTable}
use Rattle.network.specs.declared.Grant.{Grant}
use Rattle.network.specs.declared.Request.{Request}
use Rattle.network.specs.declared.answer.NoRoute.{NoRoute}
use Rattle.network.specs.declared.answer.NoRoute.TheVariants.{NoPath, NoSolution}
use Rattle.network.specs.declared.answer.Reduction.{Reduction}
use Rattle.network.specs.declared.answer.Reduction.TheVariants.{One, Two}
use Rattle.network.specs.Reduce.{problem_one, problem_two, TermsInRange, Outcome, no_path, no_solution, granted}
use Rattle.network.proofs.Tests.{by_lt, zero_one}
use Rattle.search.specs.Distance.{distance, distance_if_any}
use Rattle.search.specs.ebf.Solve.{solve}
use Rattle.search.specs.Heuristic.{outcome_of, or_else, tried, search}
use Rattle.search.specs.declared.reduced.Hop.{Hop}
use Rattle.search.specs.declared.reduced.Reduced.{Reduced}
use Rattle.search.specs.Solver.{Reduces, Weighed, net_in, problem_of}
use Rattle.search.specs.Hops.{nth_hop, HopsFit}
use Rattle.search.specs.Result.{outcome, search_answer_of, path_after}
use Rattle.search.specs.Roles.{kept_weight, kept_bound, problem_by, outcome_by}
use Rattle.search.proofs.ebf.Alike.{solve_depends}

-- the answer, and the path buffer after it, are those of the outcome
pub record Answers (g : Net) (o : Outcome) (path : List ℕ) (a : Answer Grant NoRoute) (after : List ℕ) : Type 0 where
  pub answer : a ≡ search_answer_of g o
  pub words : after ≡ path_after o path

answers_same : (g : Net) (o o' : Outcome) (path : List ℕ) (a : Answer Grant NoRoute) (after : List ℕ) → o ≡ o' → Answers g o path a after → Answers g o' path a after
answers_same g o o' path a after same h =
    record { answer = h.answer ∙ ap (search_answer_of g) same; words = h.words ∙ ap (λ (z : Outcome). path_after z path) same }

module _ (g : Net) (r : Request) (x : ℕ) where
  -- ---- one problem
  abbrev by : Reduction → Outcome
  by = outcome_by g r x

  pub roles_answer : (which : Reduction) (p : Reduced) → Reduces g (problem_by g r x which) p
      → (path : List ℕ) (a : Answer Grant NoRoute) (after : List ℕ)
      → Answers g (outcome_of which (solve (net_in p) (problem_of p) r.source r.target)) path a after
      → Answers g (by which) path a after
  unfolding outcome_by
  roles_answer which p is path a after =
      answers_same g _ _ path a after
      (ap (outcome_of which) (sym (solve_depends g (net_in p) is.edges (problem_by g r x which) (problem_of p) is.weights r.source r.target)))

  -- ---- the first answer, else the second
  stands : (a b : Outcome) → (search_answer_of g a ≡ Err NoSolution → ⊥) → a ≡ or_else a b
  unfolding search_answer_of
  stands no_path b h = refl
  stands no_solution b h = absurd (h refl)
  stands (granted which p) b h = refl

  falls : (a : Outcome) → search_answer_of g a ≡ Err NoSolution → a ≡ no_solution
  unfolding search_answer_of
  falls no_path h = absurd (zero_one cc)
  falls no_solution h = refl
  falls (granted which p) h = absurd (zero_one cc)

  tried_is : or_else (by One) (by Two) ≡ tried g r x
  unfolding tried outcome_by problem_by problem_one problem_two
  tried_is = refl

  module _ (path : List ℕ) (a : Answer Grant NoRoute) (after : List ℕ) (first : Answers g (by One) path a after) where
    pub first_answers : (a ≡ Err NoSolution → ⊥) → Answers g (tried g r x) path a after
    first_answers other =
        answers_same g _ _ path a after (stands (by One) (by Two) (λ e. other (first.answer ∙ e)) ∙ tried_is) first

    pub second_answers : a ≡ Err NoSolution → (a' : Answer Grant NoRoute) (after' : List ℕ) → Answers g (by Two) after a' after'
        → Answers g (tried g r x) path a' after'
    unfolding path_after
    second_answers lacks a' after' second =
        let none : by One ≡ no_solution = falls (by One) (sym first.answer ∙ lacks) in
        let same : by Two ≡ tried g r x = ap (λ (o : Outcome). or_else o (by Two)) (sym none) ∙ tried_is in
        let kept : after ≡ path = first.words ∙ ap (λ (o : Outcome). path_after o path) none in
        answers_same g _ _ path a' after' same (record { answer = second.answer; words = second.words ∙ ap (path_after (by Two)) kept })

-- ---- the distance first
pub distance_below : (g : Net) (s t k : ℕ) → Some k ≡ distance_if_any g s t → k < g.nodes
unfolding distance_if_any
distance_below g s t k some =
    let far : ℕ = distance g s t in
    by_lt far g.nodes (λ low. let same : far ≡ k = cc (lt-ltb far g.nodes low) in rw (← same) low) (λ high. absurd (zero_one (cc (le-ltb far g.nodes high))))

-- the greatest coefficient times the links of a path through all nodes
pub x_below : (c k n : ℕ) → c ≤ most_coefficient → k < n → n ≤ most_nodes → c * k ≤ most_x
x_below c k n few low most = mul-le-mul {m₂ = most_nodes - 1} few (omega arith)

module _ (g : Net) (r : Request) (path : List ℕ) where
  pub search_nowhere : ◌≡◌ {A = Option ℕ} None (distance_if_any g r.source r.target) → Answers g (outcome g r) path (Err NoPath) path
  unfolding distance_if_any outcome search search_answer_of path_after
  search_nowhere none =
      let k : ℕ = distance g r.source r.target in
      by_lt k g.nodes (λ low. absurd (zero_one (cc (lt-ltb k g.nodes low))))
      (λ high. record { answer = simp (le-ltb k g.nodes high); words = simp (le-ltb k g.nodes high) })

  pub search_somewhere : (k : ℕ) → Some k ≡ distance_if_any g r.source r.target → (a : Answer Grant NoRoute) (after : List ℕ)
      → Answers g (tried g r (r.terms.coefficient * k)) path a after → Answers g (outcome g r) path a after
  unfolding distance_if_any outcome search
  search_somewhere k some a after =
      let far : ℕ = distance g r.source r.target in
      by_lt far g.nodes
      (λ low.
      let same : far ≡ k = cc (lt-ltb far g.nodes low) in
      answers_same g _ _ path a after (simp (lt-ltb far g.nodes low) (ap (λ (z : ℕ). tried g r (r.terms.coefficient * z)) (sym same))))
      (λ high. absurd (zero_one (cc (le-ltb far g.nodes high))))

-- ---- a network and a request in their ranges give a reduced problem in its ranges
module _ (n m : ℕ) (words : List ℕ) (usable : List Bool) (delays costs : List ℕ) (r : Request) (x : ℕ) (which : Reduction)
    (hops : List Hop) where
  abbrev g : Net
  g = net_of n m words usable delays costs

  abbrev listed : Type 0
  listed = (i : ℕ) → i < m → Weighed g (problem_by g r x which) i (nth_hop hops i)

  pub weighed_fits : LinkTable n m words delays costs → TermsInRange r → x ≤ most_x → length hops ≡ m → listed → (bound : ℕ) → bound ≡ kept_bound r which → HopsFit n x bound hops
  unfolding net_of problem_by
  weighed_fits table terms small long each bound is =
      record {
        nodes_some = table.nodes_some;
        nodes_most = table.nodes_most;
        links_most = rw long table.links_most;
        x_most = small;
        bound_most = rw is (kept_bound_most which);
        tail = λ i below. let low : i < m = omega (arith, long, below) in omega (arith, (each i low).tail, table.from i low);
        head = λ i below. let low : i < m = omega (arith, long, below) in omega (arith, (each i low).head, table.to i low);
        kept = λ i below. let low : i < m = omega (arith, long, below) in rw (sym (each i low).kept) (kept_light i low which);
      }
    where
      kept_bound_most : (which : Reduction) → kept_bound r which ≤ most_bound
      kept_bound_most One = omega (arith, terms.delay_most)
      kept_bound_most Two = omega (arith, terms.cost_most)

      kept_light : (i : ℕ) → i < m → (which : Reduction) → kept_weight g which i ≤ most_weight
      kept_light i low One = omega (arith, table.delay i low)
      kept_light i low Two = omega (arith, table.cost i low)

  pub weighed_reduces : (p : Reduced) → p.nodes ≡ n → length p.hops.now ≡ m → p.x ≡ x → p.bound ≡ kept_bound r which → p.hops.now ≡ hops → listed
      → Reduces g (problem_by g r x which) p
  unfolding net_of problem_by net_in problem_of
  weighed_reduces p nodes links reach bound same each =
      record {
        edges = record {
          nodes = sym nodes;
          links = sym links;
          tail = λ i low. rw same (each i low).tail;
          head = λ i low. rw same (each i low).head;
          usable = λ i low. rw same (each i low).usable;
        };
        weights = record {
          x = sym reach;
          bound = sym bound;
          kept = λ i low. rw same (each i low).kept;
          scaled_by = λ i low. rw same (each i low).scaled_by;
        };
      }
