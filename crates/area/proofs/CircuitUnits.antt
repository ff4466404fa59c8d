-- Taking the circuits' units, one circuit after the other: what is free and what is used come to the capacity. A
-- circuit that does not fit needs more of a link than its capacity leaves, and further circuits only use more.
-- Assumes nothing.
use mathlib.Core.Path.{◌≡◌, refl, sym, ap, ◌∙◌, subst}
use mathlib.Core.Bool.{Bool, true, false, ◌&&◌, and-false}
use mathlib.Core.List.{List, [], ◌∷◌, ◌++◌}
use Prim.Native.Nat.{ℕ, zero, suc, ◌+◌, ◌-◌, ◌≤◌, ◌<◌}
use native.Mathlib.Nat.{zero-add, add-zero, le_refl}
use native.Mathlib.Numerals.{add-one}
use native.Mathlib.Omega.{arith}
use lib.Dec.{leb}
use lib.ListN.{get_or}
use borrow.Author.Tests.{le-leb, lt-leb}
use Rattle.network.specs.Lists.{memb, Distinct}
use Rattle.network.specs.Loops.{every}
use Rattle.network.specs.Words.{field}
use Rattle.network.proofs.Listed.{from_more}
use Rattle.network.proofs.Loops.{every_none, every_more, every_done, every_fails, every_all}
use Rattle.network.proofs.Tests.{both, by_bool, by_eq, fst_of, snd_of}
use Rattle.area.specs.Station.{Table, Circuit, circuit_at, circuits}
use Rattle.area.specs.Books.{units_on, usage}
use Rattle.area.specs.Formed.{PathOf, CircuitFits, path_fits, words_fit, place_fits, places_fit, units_fit, circuits_fit}
use Rattle.area.specs.Units.{enough, taken}
use Rattle.area.proofs.PathTest.{path_links_differ, path_member_low}
use Rattle.area.proofs.Formed.{place_says}
use Rattle.area.proofs.Taken.{taken_at, enough_says, enough_fails}

-- m links, whatever the nodes
abbrev table_with : ℕ → List ℕ → Table
table_with m words = record { nodes = 0; links = m; words = words; hold_times = [] }

-- ---- the circuits that are held
-- a place that fits has a circuit that fits the links
place_circuit : (m : ℕ) (words w : List ℕ) (j : ℕ) → place_fits m words w j ≡ true → CircuitFits (table_with m words) (circuit_at w j)
place_circuit m words w j e = (place_says (table_with m words) w j e).circuit

-- circuits behind others add what they use of a link
usage_behind : (cs ds : List Circuit) (i : ℕ) → usage (cs ++ ds) i ≡ usage cs i + usage ds i
usage_behind [] ds i = omega arith
usage_behind (c ∷ cs) ds i = omega (arith, usage_behind cs ds i)

-- one place more adds what its circuit uses
usage_more : (w : List ℕ) (j i : ℕ) → usage (circuits w (suc j)) i ≡ units_on (circuit_at w j) i + usage (circuits w j) i
usage_more w j i =
    ap (λ (l : List Circuit). usage l i) (from_more (circuit_at w) 0 j)
    ∙ ap (λ (k : ℕ). usage (circuits w j ++ (circuit_at w k ∷ [])) i) (zero-add j)
    ∙ usage_behind (circuits w j) (circuit_at w j ∷ []) i
    ∙ omega arith

-- more circuits use no less of a link
usage_grows : (w : List ℕ) (i j h : ℕ) → j ≤ h → usage (circuits w j) i ≤ usage (circuits w h) i
usage_grows w i j zero low = let none : j ≡ 0 = omega arith in rw none (le_refl _)
usage_grows w i j (suc h) low =
    by_eq j (suc h) (λ e. rw e (le_refl _))
    (λ e.
    let before : usage (circuits w j) i ≤ usage (circuits w h) i = usage_grows w i j h (omega arith) in
    omega (arith, before, usage_more w h i))

-- ---- one circuit more
-- each link's free units and what the circuits use come to its capacity
abbrev pub Shared : List ℕ → List Circuit → List ℕ → Type 0
Shared words cs free = (i : ℕ) → get_or free i 0 + usage cs i ≡ field words i 4

module _ (words : List ℕ) (cs : List Circuit) (free : List ℕ) (c : Circuit) (once : Distinct c.path) (shared : Shared words cs free) where
  -- where it fits, they still do when its units are taken
  shared_more : enough c.units c.path free ≡ true → Shared words (c ∷ cs) (taken c.units c.path free)
  shared_more fits i = by_bool (memb i c.path) on off
    where
      on : memb i c.path ≡ true → get_or (taken c.units c.path free) i 0 + (units_on c i + usage cs i) ≡ field words i 4
      on e = rw (taken_at c.units c.path free once i, e) (omega (arith, shared i, enough_says c.units c.path free fits i e))

      off : memb i c.path ≡ false → get_or (taken c.units c.path free) i 0 + (units_on c i + usage cs i) ≡ field words i 4
      off e = rw (taken_at c.units c.path free once i, e) (omega (arith, shared i))

  -- where it does not fit, a link of its path is used beyond its capacity
  shared_over : enough c.units c.path free ≡ false → (i : ℕ) × (memb i c.path ≡ true) × (field words i 4 < usage (c ∷ cs) i)
  shared_over fails = over (enough_fails c.units c.path free once fails)
    where
      over : (i : ℕ) × (memb i c.path ≡ true) × (get_or free i 0 < c.units) → (i : ℕ) × (memb i c.path ≡ true) × (field words i 4 < usage (c ∷ cs) i)
      over (i, on, short) = (i, on, rw on (omega (arith, shared i)))

-- ---- the needs of the loop over the circuits
-- after j turns: the places that were passed fit, and what is free and what is used come to the capacity
pub record Passed (m : ℕ) (words w : List ℕ) (j : ℕ) (free : List ℕ) : Type 0 where
  pub fit : every (place_fits m words w) j ≡ true
  pub shared : Shared words (circuits w j) free

module _ (m : ℕ) (words w : List ℕ) where
  -- before the first turn
  pub passed_none : (free : List ℕ) → ((i : ℕ) → get_or free i 0 ≡ field words i 4) → Passed m words w 0 free
  passed_none free all =
      record { fit = every_none (place_fits m words w); shared = λ i. add-zero (get_or free i 0) ∙ all i }

  -- a place that does not fit
  place_out : (j h : ℕ) → j < h → false ≡ place_fits m words w j → false ≡ circuits_fit m words w h
  unfolding circuits_fit places_fit
  place_out j h low out = rw (← every_fails (place_fits m words w) j h low (sym out)) refl

  module _ (j : ℕ) (free : List ℕ) (passed : Passed m words w j free) (fits : true ≡ place_fits m words w j) (c : Circuit) (is : circuit_at w j ≡ c) where
    path : PathOf (table_with m words) c.path
    path = subst (λ (d : Circuit). PathOf (table_with m words) d.path) is (place_circuit m words w j (sym fits)).path

    once : Distinct c.path
    once = path_links_differ (table_with m words) c.path path

    -- with one place more, its circuit takes what it takes as the first of them
    more_used : (i : ℕ) → usage (circuits w (suc j)) i ≡ usage (c ∷ circuits w j) i
    more_used i = usage_more w j i ∙ ap (λ (d : Circuit). units_on d i + usage (circuits w j) i) is

    -- a circuit whose units are free
    passed_more : (after : List ℕ) → true ≡ enough c.units c.path free → after ≡ taken c.units c.path free → Passed m words w (j + 1) after
    passed_more after enough_free took =
        record {
          fit = every_more (place_fits m words w) j passed.fit (sym fits);
          shared = λ i.
              rw (add-one, took, more_used i)
              (shared_more words (circuits w j) free c once passed.shared (sym enough_free) i);
        }

    -- one whose are not
    units_out : (h : ℕ) → j < h → false ≡ enough c.units c.path free → false ≡ circuits_fit m words w h
    unfolding circuits_fit units_fit
    units_out h low fails =
        let over = shared_over words (circuits w j) free c once passed.shared (sym fails) in
        let i = over.0 in
        let grows = usage_grows w i (suc j) h (omega arith) in
        let out =
        every_fails (λ i. leb (usage (circuits w h) i) (field words i 4)) i m
        (path_member_low (table_with m words) c.path path i over.1)
        (lt-leb (usage (circuits w h) i) (field words i 4) (omega (arith, over.2, grows, more_used i))) in
        rw (← out, and-false (places_fit m words w h)) refl

  -- ---- a turn of the code: the words at the place are tested, then the path is gone through and its units are taken
  -- words that do not fit
  pub words_out : (j h : ℕ) → j < h → false ≡ words_fit w j → false ≡ circuits_fit m words w h
  unfolding place_fits
  words_out j h low out = place_out j h low (rw (← out) refl)

  module _ (j : ℕ) (free : List ℕ) (passed : Passed m words w j free) (fits : true ≡ words_fit w j) (c : Circuit) (is : circuit_at w j ≡ c) where
    place_is : place_fits m words w j ≡ path_fits m words c.path
    unfolding place_fits
    place_is =
        ap (λ (b : Bool). b && path_fits m words (circuit_at w j).path) (sym fits)
        ∙ ap (λ (d : Circuit). path_fits m words d.path) is

    -- a path that is none, or whose units are not free
    pub take_out : (h : ℕ) → j < h → false ≡ (path_fits m words c.path && enough c.units c.path free) → false ≡ circuits_fit m words w h
    take_out h low out =
        by_bool (path_fits m words c.path) (λ on. units_out j free passed (sym (place_is ∙ on)) c is h low (out ∙ rw on refl))
        (λ off. place_out j h low (sym (place_is ∙ off)))

    -- one whose are
    pub take_more : (after : List ℕ) → true ≡ (path_fits m words c.path && enough c.units c.path free)
        → after ≡ taken c.units c.path free
        → Passed m words w (j + 1) after
    take_more after fit took =
        passed_more j free passed (sym (place_is ∙ fst_of (path_fits m words c.path) _ (sym fit))) c is after
        (sym (snd_of (path_fits m words c.path) _ (sym fit))) took

  -- after the last turn
  module _ (j h : ℕ) (free : List ℕ) (last : j ≡ h) (passed : Passed m words w j free) where
    shared_all : Shared words (circuits w h) free
    shared_all = subst (λ (n : ℕ). Shared words (circuits w n) free) last passed.shared

    pub passed_all : true ≡ circuits_fit m words w h
    unfolding circuits_fit places_fit units_fit
    passed_all =
        let units =
        every_all (λ i. leb (usage (circuits w h) i) (field words i 4)) m
        (λ i low. le-leb (usage (circuits w h) i) (field words i 4) (omega (arith, shared_all i))) in
        sym (both (every (place_fits m words w) h) _ (sym (every_done (place_fits m words w) j h passed.fit last)) units)

    -- what is free is the capacity less what is used
    pub passed_left : (i : ℕ) → get_or free i 0 ≡ field words i 4 - usage (circuits w h) i
    passed_left i = omega (arith, shared_all i)
