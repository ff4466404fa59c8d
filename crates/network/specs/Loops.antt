-- Counted loops as functions: what the contracts of loops are equated with.
-- Assumes nothing.
use Rattle.std.specs.Prelude.{ℕ, zero, suc, Bool, true, cond, ◌&&◌, ltb}

-- the state after the turns 0 to n − 1
unfoldable pub iter {ℓ} : {A : Type ℓ} → (ℕ → A → A) → ℕ → A → A
iter f zero a = a
iter f (suc n) a = f n (iter f n a)

-- the first of the numbers 0 to n − 1 at which the test passes, or n where it passes at none
unfoldable pub first : (ℕ → Bool) → ℕ → ℕ
first f zero = zero
first f (suc n) = let sooner : ℕ = first f n in let here : ℕ = cond (f n) n (suc n) in cond (ltb sooner n) sooner here

-- the test passes at every number from 0 to n − 1
unfoldable pub every : (ℕ → Bool) → ℕ → Bool
every f zero = true
every f (suc n) = every f n && f n
