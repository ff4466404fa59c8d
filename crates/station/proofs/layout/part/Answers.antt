-- The words cut out from `at` to `at + n` are `n` words, those that are read from `at` on.
use Rattle.std.proofs.Common.{arith, ◌≡◌, ◌+◌, ◌-◌, ◌≤◌, length, ℕ, List, ap, ◌∙◌, drop, take}
use Rattle.area.specs.Station.{words_at}
use Rattle.area.proofs.WordsAt.{words_part}
use Rattle.station.proofs.layout.part.Goals as goal

lent : (w : List ℕ) (a n : ℕ) → a + n ≤ length w → take (a + n - a) (drop a w) ≡ words_at w a n
lent w a n fits =
    let count : a + n - a ≡ n = omega arith in
    ap (λ (k : ℕ). take k (drop a w)) count ∙ words_part w a n fits

pub returns : goal.returns
returns c = lent _ _ _ (omega arith)
