-- Laws of counted loops: a loop's three needs, what it keeps, when two loops agree, and when a loop may stop early.
-- Assumes nothing.
use mathlib.Core.Path.{◌≡◌, refl, sym, ◌∙◌, ap, subst}
use mathlib.Core.Bool.{Bool, true, false, cond, and-false, false≢true}
use Prim.Native.Nat.{ℕ, zero, suc, ◌+◌, ◌-◌, ◌<◌, ◌≤◌}
use native.Mathlib.Nat.{zero-add, suc-add, le_refl}
use native.Mathlib.Numerals.{add-one}
use native.Mathlib.Omega.{arith}
use lib.Dec.{ltb}
use borrow.Author.Tests.{ltb-true, ltb-false}
use Rattle.network.specs.Loops.{iter, first, every}
use Rattle.network.proofs.Tests.{by_eq, by_lt, by_test, fst_of, snd_of}

module _ {A : Type 0} (f : ℕ → A → A) where
  -- before the first turn
  pub iter_none : (a : A) → a ≡ iter f 0 a
  unfolding iter
  iter_none a = refl

  -- one more turn: the loop's invariant from the body's contract
  pub iter_more : (n : ℕ) (a : A) {b d : A} → b ≡ iter f n a → d ≡ f n b → d ≡ iter f (n + 1) a
  unfolding iter
  iter_more n a h q = rw (add-one, ← h) q

  -- after the last turn
  pub iter_done : (n m : ℕ) (a : A) {b : A} → b ≡ iter f n a → n ≡ m → b ≡ iter f m a
  iter_done n m a h q = h ∙ ap (λ count. iter f count a) q

  -- where no turn changes the state any more, further turns change nothing
  pub iter_stays : (n d : ℕ) (a b : A) → b ≡ iter f n a → ((i : ℕ) → f i b ≡ b) → b ≡ iter f (d + n) a
  unfolding iter
  iter_stays n zero a b h same = rw zero-add h
  iter_stays n (suc d) a b h same = rw (suc-add, ← iter_stays n d a b h same) (sym (same (d + n)))

  -- what each turn keeps, the loop keeps
  pub iter_keeps : (P : A → Type 0) (n : ℕ) (a : A) → ((i : ℕ) (b : A) → i < n → P b → P (f i b)) → P a → P (iter f n a)
  unfolding iter
  iter_keeps P zero a step h = h
  iter_keeps P (suc n) a step h = step n _ (omega arith) (iter_keeps P n a (λ i b l. step i b (omega arith)) h)

  -- turn j brings P about where Q holds, each turn keeps Q, and each keeps P
  pub iter_brings : (Q P : A → Type 0) (j n : ℕ) → j < n
      → ((i : ℕ) (a : A) → i < n → Q a → Q (f i a))
      → ((a : A) → Q a → P (f j a))
      → ((i : ℕ) (a : A) → P a → P (f i a))
      → (a : A) → Q a → P (iter f n a)
  unfolding iter
  iter_brings Q P j zero low before brings keeps a h = absurd (omega arith)
  iter_brings Q P j (suc n) low before brings keeps a h =
      by_eq j n
      (λ e. subst (λ (m : ℕ). P (f m (iter f n a))) e (brings (iter f n a) (iter_keeps Q n a (λ i b l. before i b (omega arith)) h)))
      (λ ne. keeps n (iter f n a) (iter_brings Q P j n (omega arith) (λ i b l. before i b (omega arith)) brings keeps a h))

-- the three for a function's `using`
pub ruleset counted = (iter_none, iter_more, iter_done)

-- two loops that each turn keeps related
pub iter_both : {A B : Type 0} (f : ℕ → A → A) (h : ℕ → B → B) (R : A → B → Type 0) (n : ℕ)
    → ((i : ℕ) (a : A) (b : B) → i < n → R a b → R (f i a) (h i b)) → (a : A) (b : B) → R a b → R (iter f n a) (iter h n b)
unfolding iter
iter_both f h R zero step a b r = r
iter_both f h R (suc n) step a b r = step n _ _ (omega arith) (iter_both f h R n (λ i a b l. step i a b (omega arith)) a b r)

-- turns that agree below n make the same loop of n turns
pub iter_same : {A : Type 0} (f h : ℕ → A → A) (n : ℕ) → ((i : ℕ) (a : A) → i < n → f i a ≡ h i a) → (a : A) → iter f n a ≡ iter h n a
unfolding iter
iter_same f h zero same a = refl
iter_same f h (suc n) same a = ap (f n) (iter_same f h n (λ i a low. same i a (omega arith)) a) ∙ same n _ (omega arith)

-- turns that all do the same: the first may be taken first
pub iter_first : {A : Type 0} (g : A → A) (n : ℕ) (a : A) → iter (λ _. g) (suc n) a ≡ iter (λ _. g) n (g a)
unfolding iter
iter_first g zero a = refl
iter_first g (suc n) a = ap g (iter_first g n a)

-- a turn after which a turn changes nothing: the turns that are left may be left out
pub iter_settled : {A : Type 0} (g : A → A) (n m : ℕ) (a : A) {b d : A} → b ≡ iter (λ _. g) n a → n < m → d ≡ g b → g d ≡ d
    → d ≡ iter (λ _. g) m a
iter_settled g n m a {b} {d} h low turn same =
    iter_done (λ _. g) (m - (n + 1) + (n + 1)) m a
    (iter_stays (λ _. g) (n + 1) (m - (n + 1)) a d (iter_more (λ _. g) n a h turn) (λ _. same)) (omega arith)

-- ---- the first number at which a test passes
module _ (f : ℕ → Bool) where
  pub first_most : (n : ℕ) → first f n ≤ n
  unfolding first
  first_most zero = le_refl _
  first_most (suc n) =
      by_test (ltb (first f n) n) (first f n) (cond (f n) n (suc n)) (λ (k : ℕ). k ≤ suc n) (λ e. omega (arith, first_most n))
      (λ e. by_test (f n) n (suc n) (λ (k : ℕ). k ≤ suc n) (λ q. omega arith) (λ q. le_refl _))

  pub first_passes : (n : ℕ) → first f n < n → f (first f n) ≡ true
  unfolding first
  first_passes zero low = absurd (omega arith)
  first_passes (suc n) low =
      by_test (ltb (first f n) n) (first f n) (cond (f n) n (suc n)) (λ (k : ℕ). k < suc n → f k ≡ true)
      (λ e l. first_passes n (ltb-true _ _ e))
      (λ e. by_test (f n) n (suc n) (λ (k : ℕ). k < suc n → f k ≡ true) (λ q l. q) (λ q l. absurd (omega arith))) low

  pub first_before : (n j : ℕ) → j < first f n → f j ≡ false
  unfolding first
  first_before zero j low = absurd (omega arith)
  first_before (suc n) j low =
      by_test (ltb (first f n) n) (first f n) (cond (f n) n (suc n)) (λ (k : ℕ). j < k → f j ≡ false)
      (λ e l. first_before n j l)
      (λ e.
      let high : n ≤ first f n = ltb-false _ _ e in
      by_test (f n) n (suc n) (λ (k : ℕ). j < k → f j ≡ false) (λ q l. first_before n j (omega arith))
      (λ q l. by_eq j n (λ z. rw z q) (λ z. first_before n j (omega arith)))) low

  -- a number below n that passes where none before it does
  pub first_here : (n k : ℕ) → ((j : ℕ) → j < k → f j ≡ false) → k < n → f k ≡ true → k ≡ first f n
  first_here n k none low pass =
      by_lt k (first f n) (λ l. absurd (false≢true (sym (first_before n k l) ∙ pass)))
      (λ l.
      by_lt (first f n) k (λ m. absurd (false≢true (sym (none (first f n) m) ∙ first_passes n (omega arith)))) (λ m. omega arith))

  pub first_nowhere : (n : ℕ) → ((j : ℕ) → j < n → f j ≡ false) → n ≡ first f n
  first_nowhere n none =
      by_lt (first f n) n (λ l. absurd (false≢true (sym (none (first f n) l) ∙ first_passes n l))) (λ l. omega (arith, first_most n))

-- tests that agree below n pass first at the same number
pub first_same : (f h : ℕ → Bool) (n : ℕ) → ((i : ℕ) → i < n → f i ≡ h i) → first f n ≡ first h n
unfolding first
first_same f h zero same = refl
first_same f h (suc n) same = rw (first_same f h n (λ i low. same i (omega arith)), same n (omega arith))

-- ---- a test at every number below n
module _ (f : ℕ → Bool) where
  -- before the first turn
  pub every_none : every f 0 ≡ true
  unfolding every
  every_none = refl

  -- one more number passes
  pub every_more : (i : ℕ) → every f i ≡ true → f i ≡ true → every f (i + 1) ≡ true
  unfolding every
  every_more i h q = rw (add-one, h, q) refl

  -- after the last turn
  pub every_done : (i n : ℕ) → every f i ≡ true → i ≡ n → true ≡ every f n
  every_done i n h q = sym (rw q at h)

  -- one that fails is enough
  pub every_fails : (i n : ℕ) → i < n → f i ≡ false → false ≡ every f n
  unfolding every
  every_fails i zero low q = absurd (omega arith)
  every_fails i (suc n) low q =
      by_eq i n (λ e. rw (← e, q) (sym (and-false (every f i)))) (λ e. rw (← every_fails i n (omega arith) q) refl)

  pub every_at : (i n : ℕ) → i < n → every f n ≡ true → f i ≡ true
  unfolding every
  every_at i zero low h = absurd (omega arith)
  every_at i (suc n) low h =
      by_eq i n (λ e. rw e (snd_of (every f n) (f n) h)) (λ e. every_at i n (omega arith) (fst_of (every f n) (f n) h))

  pub every_all : (n : ℕ) → ((i : ℕ) → i < n → f i ≡ true) → every f n ≡ true
  unfolding every
  every_all zero all = refl
  every_all (suc n) all = rw (every_all n (λ i low. all i (omega arith)), all n (omega arith)) refl

-- tests that agree below n pass at all of these numbers alike
pub every_alike : (f h : ℕ → Bool) (n : ℕ) → ((i : ℕ) → i < n → f i ≡ h i) → every f n ≡ every h n
unfolding every
every_alike f h zero same = refl
every_alike f h (suc n) same = rw (every_alike f h n (λ i low. same i (omega arith)), same n (omega arith))
