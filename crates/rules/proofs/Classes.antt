-- The calls on class tables: the answer of each means what its rules say, and no other answer does; the check accepts exactly
-- the class tables, and the class call gives row k exactly of those that have one. A given row, between any two different nodes,
-- is a request that check 8 takes, so no quote and no admission of it is refused with 8.
-- Assumes nothing.
use Prim.Native.Nat.{ℕ, ◌≤◌, ◌<◌}
use mathlib.Core.Path.{◌≡◌, refl, sym, ap, subst, ◌∙◌}
use mathlib.Core.Bool.{false, true≢false}
use mathlib.Core.List.{List, [], ◌∷◌, ◌++◌}
use mathlib.Core.Logic.{inl, inr, ◌↔◌}
use native.Mathlib.Omega.{arith}
use Rattle.network.specs.Lists.{memb}
use Rattle.network.specs.declared.Request.{Request}
use Rattle.network.proofs.Tests.{unfailing, by_lt}
use Rattle.area.specs.Refusals.{Rule, ◌when◌, FirstApplies, Passes, Reply, refuses, grants}
use Rattle.area.proofs.Checks.{Tested, tests_not, tests_full, checked_by, first_of_more}
use Rattle.area.proofs.Refusals.{one_first, none_first, numbers_of, first_among}
use Rattle.network.specs.declared.Terms.{Terms}
use Rattle.rules.specs.Requests.{RequestFits}
use Rattle.rules.specs.Allowed.{search_rules, number_rules}
use Rattle.rules.specs.Meaning.{books_in, quote_rules, net_for, Quoted, Admitted}
use Rattle.rules.specs.Calls.{quote, admission}
use Rattle.rules.specs.ClassTable.{rows_in, row_at, request_between, ClassTable, whole_rows, rows_fit}
use Rattle.rules.specs.Classes.{table_rules, class_rules, CheckMeans, ClassMeans, table_checks, class_checks, check_answer, class_answer}
use Rattle.rules.proofs.Meaning.{quote_means, admission_means}
use Rattle.rules.proofs.ClassTable.{whole_says, whole_test, rows_says, rows_test}

-- a request that fits is not refused with 8, where no rule behind has that number
not_eight : (w : List ℕ) (work path : ℕ) (r : Request) → RequestFits (books_in w).table.nodes r
    → (qs : List Rule) → memb 8 (numbers_of qs) ≡ false → FirstApplies (quote_rules w work path r ++ qs) 8 → ⊥
not_eight w work path r fits qs none (inl (_, e)) = omega (arith, e)
not_eight w work path r fits qs none (inr (_, inl (_, e))) = omega (arith, e)
not_eight w work path r fits qs none (inr (_, inr (_, inl (_, e)))) = omega (arith, e)
not_eight w work path r fits qs none (inr (_, inr (_, inr (_, inl (lacks, e))))) = lacks fits
not_eight w work path r fits qs none (inr (_, inr (_, inr (_, inr (_, rest))))) = true≢false (sym (first_among qs 8 rest) ∙ none)

module _ (words : List ℕ) where
  -- ---- each check tests its rule, and no rule applies just where the words are a class table
  table_tested : Tested (table_checks words) (table_rules words)
  table_tested = (
    tests_not 20 (omega arith) (whole_rows words) (whole_says words) (whole_test words),
    (tests_not 21 (omega arith) (rows_fit words) (rows_says words) (rows_test words), tt),
  )

  table_passes : ClassTable words → Passes (table_rules words)
  table_passes t = (λ lacks. lacks t.counted, (λ lacks. lacks t.each, tt))

  passed_table : Passes (table_rules words) → ClassTable words
  passed_table p =
      record {
        counted = unfailing (whole_rows words) (whole_says words) (whole_test words) p.0;
        each = unfailing (rows_fit words) (rows_says words) (rows_test words) p.1.0;
      }

  -- ---- the check
  pub check_means : CheckMeans words (check_answer words)
  unfolding check_answer
  check_means =
      checked_by (CheckMeans words) refuses (table_checks words) (table_rules words) table_tested (grants tt) passed_table (λ j h. h)

  -- one answer means it
  check_one : (a b : Reply (Unit {0})) → CheckMeans words a → CheckMeans words b → a ≡ b
  check_one (refuses i) (refuses j) f h = ap refuses (one_first (table_rules words) i j f h)
  check_one (refuses i) (grants _) f t = absurd (none_first (table_rules words) i (table_passes t) f)
  check_one (grants _) (refuses j) t h = absurd (none_first (table_rules words) j (table_passes t) h)
  check_one (grants _) (grants _) t h = refl

  pub check_only : (a : Reply (Unit {0})) → CheckMeans words a → a ≡ check_answer words
  check_only a h = check_one a (check_answer words) h check_means

  -- it accepts exactly the tables whose every row is in range
  pub accepts_exactly : (check_answer words ≡ grants tt) ↔ ClassTable words
  accepts_exactly = (λ e. subst (CheckMeans words) e check_means, λ t. sym (check_only (grants tt) t))

  -- ---- the class call
  module _ (k : ℕ) where
    class_tested : Tested (class_checks words k) (class_rules words k)
    class_tested = (table_tested.0, (table_tested.1.0, (tests_full 16 (omega arith) k (rows_in words), tt)))

    class_passes : ClassTable words → k < rows_in words → Passes (class_rules words k)
    class_passes t low = ((table_passes t).0, ((table_passes t).1.0, (λ high. absurd (omega (arith, low, high)), tt)))

    pub class_means : ClassMeans words k (class_answer words k)
    unfolding class_answer
    class_means =
        checked_by (ClassMeans words k) refuses (class_checks words k) (class_rules words k) class_tested (grants (row_at words k))
        (λ p. (passed_table (p.0, (p.1.0, tt)), below p.1.1.0, refl)) (λ j h. h)
      where
        below : (rows_in words ≤ k → ⊥) → k < rows_in words
        below n = by_lt k (rows_in words) (λ low. low) (λ high. absurd (n high))

    class_one_lem : (a b : Reply Terms) → ClassMeans words k a → ClassMeans words k b → a ≡ b
    class_one_lem (refuses i) (refuses j) f h = ap refuses (one_first (class_rules words k) i j f h)
    class_one_lem (refuses i) (grants s) f t = absurd (none_first (class_rules words k) i (class_passes t.0 t.1) f)
    class_one_lem (grants r) (refuses j) t h = absurd (none_first (class_rules words k) j (class_passes t.0 t.1) h)
    class_one_lem (grants r) (grants s) t h = ap grants (t.2 ∙ sym h.2)

    pub class_only : (a : Reply Terms) → ClassMeans words k a → a ≡ class_answer words k
    class_only a h = class_one_lem a (class_answer words k) h class_means

    -- what refuses the table refuses the class
    pub table_refused : (j : ℕ) → FirstApplies (table_rules words) j → FirstApplies (class_rules words k) j
    table_refused = first_of_more (table_rules words) ((16 when rows_in words ≤ k) ∷ [])

    -- of a class table a class that is not below its rows is refused with 16
    pub no_such_class : ClassTable words → rows_in words ≤ k → FirstApplies (class_rules words k) 16
    no_such_class t high = inr ((table_passes t).0, inr ((table_passes t).1.0, inl (high, refl)))

    -- it gives row k exactly where the table is accepted and k is below its rows
    pub gives_exactly : (s : Terms)
        → (class_answer words k ≡ grants s) ↔ ((check_answer words ≡ grants tt) × (k < rows_in words) × (s ≡ row_at words k))
    gives_exactly s = (
      λ e. let h = subst (ClassMeans words k) e class_means in (accepts_exactly.1 h.0, h.1, h.2),
      λ h. sym (class_only (grants s) (accepts_exactly.0 h.0, h.1, h.2)),
    )

    -- ---- a row that is given, with any two different nodes of the station, is a request that check 8 takes
    module _ (s : Terms) (given : class_answer words k ≡ grants s) (source target : ℕ) (apart : source ≡ target → ⊥) where
      pub given_taken : (n : ℕ) → source < n → target < n → RequestFits n (request_between source target s)
      given_taken n from to =
          let h = subst (ClassMeans words k) given class_means in
          record { source = from; target = to; apart = apart; terms = rw h.2 (h.0.each k h.1) }

      -- so no quote and no admission of it is refused with 8
      module _ (w : List ℕ) (work path : ℕ) (from : source < (books_in w).table.nodes) (to : target < (books_in w).table.nodes) where
        abbrev r : Request
        r = request_between source target s

        fits : RequestFits (books_in w).table.nodes r
        fits = given_taken (books_in w).table.nodes from to

        pub quote_not_eight : quote w work path r ≡ refuses 8 → ⊥
        quote_not_eight e = not_eight w work path r fits (search_rules (net_for w r) r) refl (subst (Quoted w work path r) e (quote_means w work path r))

        pub admission_not_eight : (c : ℕ) → admission w work path c r ≡ refuses 8 → ⊥
        admission_not_eight c e =
            not_eight w work path r fits (number_rules (books_in w) c ++ search_rules (net_for w r) r) refl
            (subst (Admitted w work path c r) e (admission_means w work path r c))
