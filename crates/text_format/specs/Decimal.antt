-- A number as its decimal digits in ASCII: what such digits mean, and the digits that the code puts.
-- Assumes nothing.
use Rattle.std.specs.Prelude.{ℕ, zero, suc, ◌+◌, ◌*◌, ◌-◌, ◌/◌, ◌%◌, ◌^◌, ◌≤◌, ◌<◌, ◌≡◌, cond, List, [], ◌∷◌, ◌++◌, ltb, length}
use Rattle.network.specs.Lists.{All}

-- ---- what digits mean
-- bytes 48 to 57, the digits 0 to 9
abbrev pub AllDigits : List ℕ → Type 0
AllDigits ds = All (λ d. (48 ≤ d) × (d < 58)) ds

-- the number that digits stand for, the most significant first, behind digits that stand for v
abbrev pub value_from : ℕ → List ℕ → ℕ
value_from v [] = v
value_from v (d ∷ ds) = value_from (10 * v + (d - 48)) ds

-- the digits of a number, and no more of them than it takes
pub record IsDecimal (n : ℕ) (ds : List ℕ) : Type 0 where
  pub digits : AllDigits ds
  pub value : value_from 0 ds ≡ n
  pub any : 1 ≤ length ds
  pub fewest : 1 < length ds → 10 ^ (length ds - 1) ≤ n

-- ---- the digits that the code puts
-- of a number below 10 ^ k: its one digit, or those of its tenth and then its last
unfoldable pub decimal_of : ℕ → ℕ → List ℕ
decimal_of zero n = []
decimal_of (suc k) n = cond (ltb n 10) ((48 + n) ∷ []) (decimal_of k (n / 10) ++ ((48 + n % 10) ∷ []))

-- a word is below 10 ^ 10
unfoldable pub decimal : ℕ → List ℕ
unfolding decimal_of
decimal n = decimal_of 10 n
