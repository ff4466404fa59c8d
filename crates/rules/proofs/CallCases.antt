-- The calls, one equation for each of the code's returns: the first check that fails gives the reply, and past the
-- checks it is what the search replies.
-- Assumes nothing.
use Prim.Native.Nat.{ℕ, ◌≤◌, ◌<◌}
use mathlib.Core.Path.{◌≡◌, refl, ◌∙◌}
use mathlib.Core.Bool.{Bool, true, false, cond, and-false}
use mathlib.Core.List.{List, [], ◌++◌}
use lib.Dec.{ltb, leb}
use lib.ListN.{get_or}
use borrow.Author.Tests.{leb-true, le-leb, ltb-true, lt-ltb, le-ltb}
use Rattle.network.specs.Limits.{path_words, work_words}
use Rattle.network.specs.declared.Request.{Request}
use Rattle.area.specs.Layout.{least_number, most_circuits, most_number}
use Rattle.area.specs.Station.{nodes_in, table_in, station}
use Rattle.network.specs.Ranges.{in_range}
use Rattle.area.specs.Books.{holds, books}
use Rattle.area.specs.Held.{place_of}
use Rattle.area.specs.Formed.{well_formed}
use Rattle.area.specs.Refusals.{Reply, refuses, grants}
use Rattle.area.specs.Checks.{unless_refused, checked}
use Rattle.area.proofs.Checks.{refused_first, granted_first}
use Rattle.network.proofs.Tests.{zero_one}
use Rattle.rules.proofs.Facts.{count_is}
use Rattle.rules.specs.Requests.{request_fits}
use Rattle.rules.specs.Replies.{releases}
use Rattle.rules.specs.Calls.{number_fits, request_checks, number_checks, request_checked, number_checked, searched, quote, admission, release}
use Rattle.rules.specs.Meaning.{books_in}

-- ---- the checks of a request and of a circuit number, as the code's functions answer them
module _ (w : List ℕ) (work path : ℕ) (r : Request) where
  -- what a call that passes them may rely on
  pub record Passed : Type 0 where
    pub memory : work_words ≤ work
    pub buffer : path_words ≤ path
    pub request : request_fits (nodes_in w) r ≡ true

  pub all_passed : grants tt ≡ request_checked w work path r → Passed
  unfolding books station table_in
  all_passed e = go (leb work_words work) refl (leb path_words path) refl (request_fits (nodes_in w) r) refl e
    where
      go : (b : Bool) → leb work_words work ≡ b → (c : Bool) → leb path_words path ≡ c → (d : Bool) → request_fits (nodes_in w) r ≡ d
          → grants tt ≡ unless_refused {A = Reply (Unit {0})} refuses (grants tt) (cond b (cond c (cond d 0 8) 7) 6)
          → Passed
      go true q true s true t e = record { memory = leb-true work_words work q; buffer = leb-true path_words path s; request = t }
      go true q true s false t e = absurd (zero_one cc)
      go true q false s d t e = absurd (zero_one cc)
      go false q c s d t e = absurd (zero_one cc)

-- past the lengths the request decides
module _ (w : List ℕ) (work path : ℕ) (r : Request) (memory : work_words ≤ work) (buffer : path_words ≤ path) where
  pub fails_8 : request_fits (nodes_in w) r ≡ false → refuses 8 ≡ request_checked w work path r
  unfolding books station table_in
  fails_8 e = rw (le-leb work_words work memory, le-leb path_words path buffer, e) refl

  pub request_passes : request_fits (nodes_in w) r ≡ true → grants tt ≡ request_checked w work path r
  unfolding books station table_in
  request_passes e = rw (le-leb work_words work memory, le-leb path_words path buffer, e) refl

-- ---- a quote: the area's check, a request's checks, and the search
module _ (w : List ℕ) (work path : ℕ) (r : Request) where
  pub quote_unfit : well_formed w ≡ false → refuses 5 ≡ quote w work path r
  unfolding quote
  quote_unfit e = rw e refl

  module _ (formed : well_formed w ≡ true) where
    quote_is : checked refuses (request_checks (books_in w) work path r ++ []) (searched (books_in w) r) ≡ quote w work path r
    unfolding quote
    quote_is = rw formed refl

    pub quote_refused : (k : ℕ) → refuses k ≡ request_checked w work path r → refuses k ≡ quote w work path r
    quote_refused k e = refused_first (request_checks (books_in w) work path r) [] (searched (books_in w) r) tt k e ∙ quote_is

    pub quote_passed : grants tt ≡ request_checked w work path r → searched (books_in w) r ≡ quote w work path r
    quote_passed e = granted_first (request_checks (books_in w) work path r) [] (searched (books_in w) r) tt tt refl e ∙ quote_is

-- ---- what an admission asks besides
module _ (w : List ℕ) where
  -- ---- an admission: the same, with the checks of its number ahead of the search
  module _ (work path c : ℕ) (r : Request) where
    pub admission_unfit : well_formed w ≡ false → refuses 5 ≡ admission w work path c r
    unfolding admission
    admission_unfit e = rw e refl

    module _ (formed : well_formed w ≡ true) where
      admission_is : checked refuses (request_checks (books_in w) work path r ++ number_checks (books_in w) c) (searched (books_in w) r)
          ≡ admission w work path c r
      unfolding admission
      admission_is = rw formed refl

      pub admission_refused : (k : ℕ) → refuses k ≡ request_checked w work path r → refuses k ≡ admission w work path c r
      admission_refused k e =
          refused_first (request_checks (books_in w) work path r) (number_checks (books_in w) c) (searched (books_in w) r) tt k e ∙ admission_is

      module _ (passed : grants tt ≡ request_checked w work path r) where
        own_left : checked refuses (number_checks (books_in w) c ++ []) (searched (books_in w) r) ≡ admission w work path c r
        own_left =
            granted_first (request_checks (books_in w) work path r) (number_checks (books_in w) c) (searched (books_in w) r) tt tt refl passed
            ∙ admission_is

        pub number_refused : (k : ℕ) → refuses k ≡ number_checked w c → refuses k ≡ admission w work path c r
        number_refused k e = refused_first (number_checks (books_in w) c) [] (searched (books_in w) r) (place_of w c) k e ∙ own_left

        pub admission_passed : (j : ℕ) → grants j ≡ number_checked w c → searched (books_in w) r ≡ admission w work path c r
        admission_passed j e = granted_first (number_checks (books_in w) c) [] (searched (books_in w) r) (place_of w c) j refl e ∙ own_left

  -- a number out of its range or held, and as many circuits as may be held, refuse it; else both checks pass
  module _ (c : ℕ) where
    pub fails_range : in_range least_number most_number c ≡ false → refuses 11 ≡ number_checked w c
    unfolding number_fits
    fails_range e = rw e refl

    pub fails_held : holds (station w).held c ≡ true → refuses 11 ≡ number_checked w c
    unfolding number_fits books
    fails_held e = rw (e, and-false (in_range least_number most_number c)) refl

    module _ (range : in_range least_number most_number c ≡ true) (new : holds (station w).held c ≡ false) where
      fits : number_fits (books_in w) c ≡ true
      unfolding number_fits books
      fits = rw (range, new) refl

      pub fails_12 : most_circuits ≤ get_or w 2 0 → refuses 12 ≡ number_checked w c
      fails_12 high = rw (fits, count_is w, le-ltb (get_or w 2 0) most_circuits high) refl

      pub number_passes : get_or w 2 0 < most_circuits → (j : ℕ) → j ≡ place_of w c → grants j ≡ number_checked w c
      number_passes low j is = rw (fits, count_is w, lt-ltb (get_or w 2 0) most_circuits low, is) refl

  -- what a call that passes them may rely on: there is room, and the number's place is known
  pub number_passed : (c j : ℕ) → grants j ≡ number_checked w c → (get_or w 2 0 < most_circuits) × (j ≡ place_of w c)
  number_passed c j e = go (number_fits (books_in w) c) (ltb (books_in w).count most_circuits) refl e
    where
      go : (b d : Bool) → ltb (books_in w).count most_circuits ≡ d
          → grants j ≡ unless_refused {A = Reply ℕ} refuses (grants (place_of w c)) (cond b (cond d 0 12) 11)
          → (get_or w 2 0 < most_circuits) × (j ≡ place_of w c)
      go true true q e = (rw (← count_is w) (ltb-true _ most_circuits q), cc)
      go true false q e = absurd (zero_one cc)
      go false d q e = absurd (zero_one cc)

  -- ---- release
  pub release_unfit : (c : ℕ) → well_formed w ≡ false → refuses 5 ≡ release w c
  unfolding release
  release_unfit c e = rw e refl

  pub release_unheld : (c : ℕ) → well_formed w ≡ true → holds (station w).held c ≡ false → refuses 13 ≡ release w c
  unfolding release books
  release_unheld c e none = rw (e, none) refl

  pub release_held : (c : ℕ) → well_formed w ≡ true → holds (station w).held c ≡ true → releases ≡ release w c
  unfolding release books
  release_held c e has = rw (e, has) refl
