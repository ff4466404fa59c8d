-- The replies mean what the rules say. Each check's test fails just where its rule applies, so the first check that
-- fails is the first rule that applies; past the checks the route search keeps its stated result.
-- Assumes nothing.
use Prim.Native.Nat.{ℕ, ◌<◌}
use mathlib.Core.Path.{◌≡◌, refl}
use mathlib.Core.Bool.{true, not}
use mathlib.Core.List.{List, [], ◌∷◌, ◌++◌}
use mathlib.Core.Logic.{◌⊎◌, inl, inr}
use native.Mathlib.Omega.{arith}
use lib.Dec.{ltb, leb, eqb}
use borrow.Author.Tests.{ltb-true, lt-ltb, eqb-false, ne_eqb, not-true}
use Rattle.network.specs.Limits.{path_words, work_words}
use Rattle.network.specs.Net.{Net}
use Rattle.network.specs.Reduce.{Outcome, no_path, no_solution, granted}
use Rattle.network.specs.declared.Request.{Request}
use Rattle.network.specs.declared.answer.Reduction.{Reduction}
use Rattle.network.specs.declared.answer.Reduction.TheVariants.{One, Two}
use Rattle.network.proofs.Tests.{fst_of, snd_of, unfailing, zero_one, both}
use Rattle.network.specs.Ranges.{in_range}
use Rattle.network.proofs.Ranges.{range_says, range_test, terms_says, terms_test}
use Rattle.search.specs.Result.{Searchable, outcome, GrantedByOne, GrantedByTwo, Result}
use Rattle.search.proofs.Result.{outcome_found}
use Rattle.area.specs.Layout.{least_number, most_circuits, most_number}
use Rattle.area.specs.Books.{Books, books, net}
use Rattle.area.specs.Formed.{WellFormed, well_formed}
use Rattle.area.specs.Refusals.{◌when◌, Answered}
use Rattle.area.specs.Checks.{◌unless◌}
use Rattle.area.proofs.Checks.{Tests, tests_not, tests_short, tests_full, tests_false, checked_answers}
use Rattle.area.proofs.Formed.{formed_says, formed_test}
use Rattle.rules.specs.Requests.{RequestFits, request_fits}
use Rattle.rules.specs.Replies.{reply_of, releases}
use Rattle.rules.specs.Calls.{searched, number_fits, quote_checks, admit_checks, release_checks, quote, admission, release}
use Rattle.rules.specs.Allowed.{Grant, search_rules, NumberFits, number_rules, release_rules}
use Rattle.rules.specs.Meaning.{books_in, quote_rules, net_for, Quoted, Admitted, Cleared}

-- ---- a request's ranges, and a circuit number's: the test says what the statement says
module _ (n : ℕ) (r : Request) where
  pub request_says : request_fits n r ≡ true → RequestFits n r
  unfolding request_fits
  request_says e =
      let e1 = snd_of (ltb r.source n) _ e in
      let e2 = snd_of (ltb r.target n) _ e1 in
      record {
        source = ltb-true r.source n (fst_of (ltb r.source n) _ e);
        target = ltb-true r.target n (fst_of (ltb r.target n) _ e1);
        apart = eqb-false r.source r.target (not-true _ (fst_of (not (eqb r.source r.target)) _ e2));
        terms = terms_says _ (snd_of (not (eqb r.source r.target)) _ e2);
      }

  pub request_test : RequestFits n r → request_fits n r ≡ true
  unfolding request_fits
  request_test h =
      both (ltb r.source n) _ (lt-ltb r.source n h.source)
      (both (ltb r.target n) _ (lt-ltb r.target n h.target)
      (both (not (eqb r.source r.target)) _ (rw (ne_eqb r.source r.target h.apart)) (terms_test _ h.terms)))

module _ (o : Books) (c : ℕ) where
  pub number_says : number_fits o c ≡ true → NumberFits o c
  unfolding number_fits
  number_says e =
      let range = range_says least_number most_number c (fst_of (in_range least_number most_number c) _ e) in
      record { least = range.0; most = range.1; new = not-true (o.holds c) (snd_of (in_range least_number most_number c) _ e) }

  pub number_test : NumberFits o c → number_fits o c ≡ true
  unfolding number_fits
  number_test h = both (in_range least_number most_number c) _ (range_test least_number most_number c h.least h.most) (rw h.new)

-- ---- the search
-- a well-formed area and a request that fits may be searched
pub area_searchable : (w : List ℕ) (r : Request) → WellFormed w → RequestFits (books_in w).table.nodes r → Searchable (net_for w r) r
unfolding net books
area_searchable w r formed fits =
    record {
      ends = record {
        tails = λ i low. (formed.sound.table.each i low).from;
        heads = λ i low. (formed.sound.table.each i low).to;
      };
      few = formed.sound.table.nodes_most;
      source = fits.source;
      target = fits.target;
      apart = fits.apart;
      coefficient_some = fits.terms.coefficient_least;
    }

module _ (g : Net) (r : Request) where
  -- which problem granted
  by_problem : (k : Reduction) (p : List ℕ) → Result g r (granted k p) → (k ≡ One) ⊎ (k ≡ Two)
      → ((k ≡ One) × GrantedByOne g r p) ⊎ ((k ≡ Two) × GrantedByTwo g r p)
  by_problem k p h (inl e) = inl (e, h.by_one p (rw e))
  by_problem k p h (inr e) = inr (e, h.by_two p (rw e))

  -- every outcome is one of the two refusals or a grant
  replied : (o : Outcome) → Result g r o → Answered (Grant g r) (search_rules g r) (reply_of g o)
  unfolding reply_of
  replied no_path h = inl (h.nowhere.0 refl, refl)
  replied no_solution h = inr (λ lacks. never (h.nowhere.1 lacks), inl (h.unsolved.0 refl, refl))
    where
      never : no_solution ≡ no_path → ⊥
      never e = zero_one cc
  replied (granted k p) h = (
    (λ lacks. nowhere (h.nowhere.1 lacks), (λ lacks. unsolved (h.unsolved.1 lacks), tt)),
    record { least = by_problem k p h (h.no_other k p refl); delay = refl; cost = refl },
  )
    where
      nowhere : granted k p ≡ no_path → ⊥
      nowhere e = zero_one cc

      unsolved : granted k p ≡ no_solution → ⊥
      unsolved e = zero_one cc

-- past the checks: 9, 10 or a grant
pub searched_means : (w : List ℕ) (r : Request) → WellFormed w → RequestFits (books_in w).table.nodes r
    → Answered (Grant (net_for w r) r) (search_rules (net_for w r) r) (searched (books_in w) r)
unfolding searched
searched_means w r formed fits =
    replied (net_for w r) r (outcome (net_for w r) r) (outcome_found (net_for w r) r (area_searchable w r formed fits))

-- ---- the calls
-- what a statement says where its rule does not apply
pub formed_past : (w : List ℕ) → ((WellFormed w → ⊥) → ⊥) → WellFormed w
formed_past w = unfailing (well_formed w) (formed_says w) (formed_test w)

pub request_past : (n : ℕ) (r : Request) → ((RequestFits n r → ⊥) → ⊥) → RequestFits n r
request_past n r = unfailing (request_fits n r) (request_says n r) (request_test n r)

pub number_past : (o : Books) (c : ℕ) → ((NumberFits o c → ⊥) → ⊥) → NumberFits o c
number_past o c = unfailing (number_fits o c) (number_says o c) (number_test o c)

module _ (w : List ℕ) where
  -- the test of an area, which every call makes first
  pub area_tested : Tests (5 unless well_formed w) (5 when (WellFormed w → ⊥))
  area_tested = tests_not 5 (omega arith) (well_formed w) (formed_says w) (formed_test w)

  -- each check of a request tests its rule
  module _ (work path : ℕ) (r : Request) where
    memory_tested : Tests (6 unless leb work_words work) (6 when work < work_words)
    memory_tested = tests_short 6 (omega arith) work_words work

    buffer_tested : Tests (7 unless leb path_words path) (7 when path < path_words)
    buffer_tested = tests_short 7 (omega arith) path_words path

    request_tested : Tests (8 unless request_fits (books_in w).table.nodes r) (8 when (RequestFits (books_in w).table.nodes r → ⊥))
    request_tested = tests_not 8 (omega arith) (request_fits (books_in w).table.nodes r) (request_says _ r) (request_test _ r)

    -- past them the search may be asked
    searched_past : ((WellFormed w → ⊥) → ⊥) → ((RequestFits (books_in w).table.nodes r → ⊥) → ⊥)
        → Answered (Grant (net_for w r) r) (search_rules (net_for w r) r) (searched (books_in w) r)
    searched_past formed fits = searched_means w r (formed_past w formed) (request_past _ r fits)

    -- every reply of a quote is the one that the rules give
    pub quote_means : Quoted w work path r (quote w work path r)
    unfolding quote
    quote_means =
        checked_answers (Grant (net_for w r) r) (quote_checks w work path r) (quote_rules w work path r)
        (area_tested, (memory_tested, (buffer_tested, (request_tested, tt)))) (search_rules (net_for w r) r) (searched (books_in w) r)
        (λ p. searched_past p.0 p.1.1.1.0)

    -- every reply of an admission
    pub admission_means : (c : ℕ) → Admitted w work path c r (admission w work path c r)
    unfolding admission
    admission_means c =
        checked_answers (Grant (net_for w r) r) (admit_checks w work path c r) (quote_rules w work path r ++ number_rules (books_in w) c)
        (area_tested, (memory_tested, (buffer_tested, (request_tested, (number_tested, (tests_full 12 (omega arith) (books_in w).count most_circuits, tt))))))
        (search_rules (net_for w r) r)
        (searched (books_in w) r)
        (λ p. searched_past p.0 p.1.1.1.0)
      where
        number_tested : Tests (11 unless number_fits (books_in w) c) (11 when (NumberFits (books_in w) c → ⊥))
        number_tested = tests_not 11 (omega arith) (number_fits (books_in w) c) (number_says (books_in w) c) (number_test (books_in w) c)

  -- every reply of a release
  pub release_means : (c : ℕ) → Cleared w c (release w c)
  unfolding release
  release_means c =
      checked_answers (λ _. Unit {0}) (release_checks w c) ((5 when (WellFormed w → ⊥)) ∷ release_rules (books_in w) c)
      (area_tested, (tests_false 13 (omega arith) ((books_in w).holds c), tt)) [] releases
      (λ p. (tt, tt))
