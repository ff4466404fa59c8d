-- What the functions of one relaxation tell each other: whether another round is due.
-- Assumes nothing.
use Rattle.std.specs.Prelude.{ℕ, ◌≡◌, Bool, false, List}

-- What a relaxation that says false tells, where the link's scaled weight is `step` and it was handed `again` before: the
-- words of the column that it was tried from are as they were, since a link of scaled weight 0 changed nothing, and it
-- was handed false
pub record Own (again : Bool) (step : ℕ) (before after : List ℕ) : Type 0 where
  pub words : step ≡ 0 → before ≡ after
  pub handed : again ≡ false
