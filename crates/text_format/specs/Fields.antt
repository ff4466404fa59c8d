-- Numbers behind one another, each with one space before it.
-- Assumes nothing.
use Rattle.std.specs.Prelude.{ℕ, List, [], ◌∷◌, ◌++◌}
use Rattle.text_format.specs.Decimal.{decimal}

-- a space is byte 32
unfoldable pub field : ℕ → List ℕ
unfolding decimal
field n = 32 ∷ decimal n

unfoldable pub fields : List ℕ → List ℕ
unfolding field
fields [] = []
fields (n ∷ ns) = field n ++ fields ns
