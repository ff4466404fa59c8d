-- Taking a path's units link by link: a loop's turns, and what is free after them. The links of a path differ, so no
-- turn sees what another one took, and each link has either the path's units less or what it had before.
-- Assumes nothing.
use mathlib.Core.Path.{◌≡◌, refl, sym, ◌∙◌}
use mathlib.Core.Bool.{true, false, cond, false≢true, true≢false}
use mathlib.Core.List.{List, [], ◌∷◌}
use Prim.Native.Nat.{ℕ, ◌+◌, ◌-◌, ◌≤◌, ◌<◌}
use native.Mathlib.Numerals.{add-one}
use native.Mathlib.Omega.{arith}
use lib.Dec.{leb}
use lib.ListN.{length, get_or, drop, length-set, drop_of_length-le, get_or-eq_default}
use lib.Seq.{drop-cons, get_or-set_same, get_or-set_other}
use borrow.Author.Tests.{leb-true, le-leb, lt-leb, leb-false, eq-eqb, ne_eqb, not-true}
use Rattle.network.specs.Lists.{memb, Distinct}
use Rattle.network.proofs.Tests.{by_bool, by_lt, by_eq, fst_of, snd_of}
use Rattle.network.proofs.Paths.{distinct_test}
use Rattle.area.specs.Units.{less, enough, taken}

-- ---- one link
-- past the end of the list both sides are 0
less_same : (u i : ℕ) (free : List ℕ) → get_or (less u i free) i 0 ≡ get_or free i 0 - u
less_same u i free =
    by_lt i (length free) (λ low. get_or-set_same free i (get_or free i 0 - u) 0 low)
    (λ high.
    let none : get_or free i 0 ≡ 0 = get_or-eq_default free 0 high in
    get_or-eq_default (less u i free) 0 (omega (arith, length-set free i (get_or free i 0 - u))) ∙ omega arith)

less_other : (u i k : ℕ) (free : List ℕ) → (k ≡ i → ⊥) → get_or (less u i free) k 0 ≡ get_or free k 0
less_other u i k free other = get_or-set_other free i k (get_or free i 0 - u) 0 other

-- ---- the turns of the loop: what is still to do comes to the same
module _ (u : ℕ) (p free : List ℕ) (j i : ℕ) where
  -- a link with enough
  pub taken_turn : j < length p → i ≡ get_or p j 0 → taken u (drop (j + 1) p) (less u i free) ≡ taken u (drop j p) free
  unfolding taken
  taken_turn low here = rw (add-one, drop-cons p j 0 low, here)

  pub enough_turn : j < length p → i ≡ get_or p j 0 → u ≤ get_or free i 0 → enough u (drop (j + 1) p) (less u i free) ≡ enough u (drop j p) free
  unfolding enough
  enough_turn low here fits = rw (add-one, drop-cons p j 0 low, ← here, le-leb u (get_or free i 0) fits)

  -- where the links still to do have enough, the next one has
  pub enough_next : j < length p → i ≡ get_or p j 0 → enough u (drop j p) free ≡ true → u ≤ get_or free i 0
  unfolding enough
  enough_next low here fits = leb-true u (get_or free i 0) (fst_of _ _ (rw (drop-cons p j 0 low, ← here) at fits))

  -- a link with too few
  pub enough_short : j < length p → i ≡ get_or p j 0 → get_or free i 0 < u → false ≡ enough u (drop j p) free
  unfolding enough
  enough_short low here short = rw (drop-cons p j 0 low, ← here, lt-leb u (get_or free i 0) short)

module _ (u : ℕ) (p free : List ℕ) (j : ℕ) where
  -- after the last link
  pub enough_end : length p ≤ j → true ≡ enough u (drop j p) free
  unfolding enough
  enough_end high = rw (drop_of_length-le p high)

  pub taken_end : length p ≤ j → free ≡ taken u (drop j p) free
  unfolding taken
  taken_end high = rw (drop_of_length-le p high)

-- ---- every link
-- the first link is none of the others
first_once : (i : ℕ) (p : List ℕ) → Distinct (i ∷ p) → memb i p ≡ false
first_once i p once = not-true (memb i p) (fst_of _ _ (distinct_test (i ∷ p) once))

-- a link of the path has the units less, another link what it had
pub taken_at : (u : ℕ) (p free : List ℕ) → Distinct p → (k : ℕ) → get_or (taken u p free) k 0 ≡ get_or free k 0 - cond (memb k p) u 0
unfolding taken
taken_at u [] free once k = omega arith
taken_at u (i ∷ p) free once k =
    taken_at u p (less u i free) once.1 k
    ∙ by_eq k i (λ e. rw (e, less_same u i free, first_once i p once, eq-eqb i i refl) (omega arith))
    (λ e. rw (less_other u i k free e, ne_eqb k i e))

-- where the units fit, every link of the path has them free
pub enough_says : (u : ℕ) (p free : List ℕ) → enough u p free ≡ true → (k : ℕ) → memb k p ≡ true → u ≤ get_or free k 0
unfolding enough
enough_says u [] free fits k on = absurd (false≢true on)
enough_says u (i ∷ p) free fits k on =
    by_eq k i (λ e. rw e (leb-true u (get_or free i 0) (fst_of _ _ fits)))
    (λ e. rw (← less_other u i k free e) (enough_says u p (less u i free) (snd_of (leb u (get_or free i 0)) _ fits) k (rw (ne_eqb k i e) at on)))

-- where the units do not fit, a link of the path has too few
pub enough_fails : (u : ℕ) (p free : List ℕ) → Distinct p → enough u p free ≡ false → (k : ℕ) × (memb k p ≡ true) × (get_or free k 0 < u)
unfolding enough
enough_fails u [] free once fails = absurd (true≢false fails)
enough_fails u (i ∷ p) free once fails =
    by_bool (leb u (get_or free i 0))
    (λ e. later (enough_fails u p (less u i free) once.1 (rw e at fails)))
    (λ e. (i, rw (eq-eqb i i refl), leb-false u (get_or free i 0) e))
  where
    later : (k : ℕ) × (memb k p ≡ true) × (get_or (less u i free) k 0 < u) → (k : ℕ) × (memb k (i ∷ p) ≡ true) × (get_or free k 0 < u)
    later (k, on, short) =
        let other : k ≡ i → ⊥ = λ e. false≢true (sym (first_once i p once) ∙ rw e at on) in
        (k, rw (ne_eqb k i other) on, rw (less_other u i k free other) at short)
