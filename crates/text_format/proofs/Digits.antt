-- The digits that the code puts: they are those of `io::decimal`, at most ten, and a number's decimal digits indeed.
-- Assumes nothing.
use Prim.Native.Nat.{ℕ, zero, suc, ◌+◌, ◌*◌, ◌-◌, ◌/◌, ◌%◌, ◌^◌, ◌≤◌, ◌<◌}
use native.Mathlib.Nat.{mod-lt, mod-eq_of_lt, pow-suc, pow-le-pow_right, div-lt_iff_lt-mul, le-div_iff_mul-le, mod-add-div}
use native.Mathlib.Decide.{dec_lt}
use native.Mathlib.Omega.{arith}
use mathlib.Core.Path.{◌≡◌, refl, ◌∙◌}
use mathlib.Core.List.{List, [], ◌∷◌, ◌++◌}
use borrow.Author.Tests.{lt-ltb, le-ltb}
use lib.ListN.{length, length-append}
use Rattle.io.specs.Digits.{hex_digit_ascii, last_digits, IsDigitCount}
use Rattle.text_format.specs.Decimal.{AllDigits, value_from, IsDecimal, decimal_of, decimal}

-- ---- the two cases of a number's digits
one_digit : (k n : ℕ) → n < 10 → decimal_of (suc k) n ≡ (48 + n) ∷ []
unfolding decimal_of
one_digit k n low = rw (lt-ltb n 10 low)

more_digits : (k n : ℕ) → 10 ≤ n → decimal_of (suc k) n ≡ decimal_of k (n / 10) ++ (48 + n % 10) ∷ []
unfolding decimal_of
more_digits k n high = rw (le-ltb n 10 high)

-- ---- there are few
short_of : (k n : ℕ) → length (decimal_of k n) ≤ k
unfolding decimal_of
short_of zero n = omega arith
short_of (suc k) n =
    elim (dec_lt n 10) [
      | yes low ↦ rw (one_digit k n low) (omega arith)
      | no not ↦ rw (more_digits k n (omega arith)) (simp length-append (omega (arith, short_of k (n / 10))))
    ]

pub decimal_short : (n : ℕ) → length (decimal n) ≤ 10
unfolding decimal
decimal_short n = short_of 10 n

-- ---- they are those of `io::decimal`
digit : (n : ℕ) → hex_digit_ascii (n % 10) ≡ 48 + n % 10
digit n = rw (lt-ltb (n % 10) 10 (mod-lt n (omega arith)))

below : (k n : ℕ) → n < 10 ^ suc (suc k) → n / 10 < 10 ^ suc k
below k n h = (div-lt_iff_lt-mul {k = 10} {x = n} {y = 10 ^ suc k} (omega arith)).1 (omega (arith, pow-suc 10 (suc k)))

tenth : (k n : ℕ) → 1 ≤ k → 10 ^ k ≤ n → 10 ^ (k - 1) ≤ n / 10
tenth zero n some h = absurd (omega arith)
tenth (suc k) n some h =
    let e : suc k - 1 ≡ k = omega arith in
    rw e ((le-div_iff_mul-le {k = 10} {x = 10 ^ k} {y = n} (omega arith)).1 (omega (arith, h, pow-suc 10 k)))

least : (k n : ℕ) → IsDigitCount 10 1 n (suc (suc k)) → 10 ^ suc k ≤ n
least k n f =
    let e : suc (suc k) - 1 ≡ suc k = omega arith in
    rw e at (f.2 (omega arith))

-- of a number that takes more than one digit, one digit fewer is the fewest of its tenth
fewer : (k n : ℕ) → 10 ≤ n → IsDigitCount 10 1 n (suc k) → IsDigitCount 10 1 (n / 10) k
fewer zero n high f = absurd (omega (arith, f.1))
fewer (suc k) n high f = (
  omega arith,
  below k n f.1,
  λ more. tenth (suc k) n (omega arith) (least k n f),
)

-- a number below ten takes one digit
one_is_fewest : (k n : ℕ) → n < 10 → IsDigitCount 10 1 n (suc k) → k ≡ zero
one_is_fewest zero n low f = omega arith
one_is_fewest (suc k) n low f = absurd (omega (arith, least k n f, pow-le-pow_right {n = 10} (omega arith) {i = 1} {j = suc k} (omega arith)))

same_digits : (k j n : ℕ) → IsDigitCount 10 1 n k → k ≤ j → last_digits 10 k n ≡ decimal_of j n
same_digits zero j n f fits = absurd (omega (arith, f.0))
same_digits (suc k) zero n f fits = absurd (omega arith)
same_digits (suc k) (suc j) n f fits =
    elim (dec_lt n 10) [
      | yes low ↦ rw (one_is_fewest k n low f, one_digit j n low, digit n, mod-eq_of_lt low)
      | no not ↦ rw (more_digits j n (omega arith), digit n, same_digits k j (n / 10) (fewer k n (omega arith) f) (omega arith))
    ]

-- a word takes at most ten
few : (k n : ℕ) → IsDigitCount 10 1 n k → n < 2 ^ 32 → k ≤ 10
few k n f word =
    elim (dec_lt 10 k) [
      | yes more ↦ absurd (omega (arith, f.2 (omega arith), pow-le-pow_right {n = 10} (omega arith) {i = 10} {j = k - 1} (omega arith)))
      | no not ↦ omega arith
    ]

pub digits_decimal : (k n : ℕ) → IsDigitCount 10 1 n k → n < 2 ^ 32 → last_digits 10 k n ≡ decimal n
unfolding decimal
digits_decimal k n f word = same_digits k 10 n f (few k n f word)

-- ---- what they mean
all_then : (ds : List ℕ) (d : ℕ) → AllDigits ds → AllDigits (d ∷ []) → AllDigits (ds ++ d ∷ [])
all_then [] d all last = last
all_then (e ∷ ds) d all last = (all.0, all_then ds d all.1 last)

value_then : (v : ℕ) (ds : List ℕ) (d : ℕ) → value_from v (ds ++ d ∷ []) ≡ 10 * value_from v ds + (d - 48)
value_then v [] d = refl
value_then v (e ∷ ds) d = value_then (10 * v + (e - 48)) ds d

-- the digits of n / 10 and then the last are those of n
module _ (n : ℕ) (ds : List ℕ) (high : 10 ≤ n) (r : IsDecimal (n / 10) ds) where
  more : length (ds ++ (48 + n % 10) ∷ []) ≡ length ds + 1
  more = simp length-append

  value : value_from 0 (ds ++ (48 + n % 10) ∷ []) ≡ n
  value =
      let e : 48 + n % 10 - 48 ≡ n % 10 = omega arith in
      value_then 0 ds (48 + n % 10) ∙ rw (r.value, e) (omega (arith, mod-add-div n 10))

  least_then : 10 ^ (length ds + 1 - 1) ≤ n
  least_then =
      elim (dec_lt 1 (length ds)) [
        | yes several ↦
            let e : length ds + 1 - 1 ≡ suc (length ds - 1) = omega arith in
            rw e (omega (arith, (le-div_iff_mul-le {k = 10} {x = 10 ^ (length ds - 1)} {y = n} (omega arith)).0 (r.fewest several), pow-suc 10 (length ds - 1)))
        | no not ↦
            let e : length ds ≡ 1 = omega (arith, r.any) in
            rw e (omega arith)
      ]

  last_digit : IsDecimal n (ds ++ (48 + n % 10) ∷ [])
  last_digit =
      record {
        digits = all_then ds (48 + n % 10) r.digits ((omega arith, omega (arith, mod-lt n {m = 10} (omega arith))), tt);
        value = value;
        any = rw more (omega arith);
        fewest = λ several. rw more least_then;
      }

one_decimal : (n : ℕ) → n < 10 → IsDecimal n ((48 + n) ∷ [])
one_decimal n low =
    record {
      digits = ((omega arith, omega arith), tt);
      value = omega arith;
      any = omega arith;
      fewest = λ several. absurd (omega arith);
    }

decimal_of_lem : (k n : ℕ) → n < 10 ^ suc k → IsDecimal n (decimal_of (suc k) n)
decimal_of_lem zero n low = rw (one_digit zero n (omega arith)) (one_decimal n (omega arith))
decimal_of_lem (suc k) n low =
    elim (dec_lt n 10) [
      | yes small ↦ rw (one_digit (suc k) n small) (one_decimal n small)
      | no not ↦ rw (more_digits (suc k) n (omega arith)) (last_digit n (decimal_of (suc k) (n / 10)) (omega arith) (decimal_of_lem k (n / 10) (below k n low)))
    ]

pub is_decimal : (n : ℕ) → n < 2 ^ 32 → IsDecimal n (decimal n)
unfolding decimal
is_decimal n word = decimal_of_lem 9 n (omega arith)
