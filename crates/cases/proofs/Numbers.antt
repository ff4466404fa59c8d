-- What the numbers of a row's call are, by hand: those of M1's quote and of M8's admission, in document 01's order.
-- Assumes nothing.
use mathlib.Core.Path.{◌≡◌, refl}
use mathlib.Core.List.{[], ◌∷◌}
use Rattle.network.specs.Reduce.{asking}
use Rattle.cases.specs.Document01.{asked_numbers}
use Rattle.cases.specs.declared.Asked.TheVariants.{Quote, Admission}

pub quote_numbers : asked_numbers (Quote (asking 0 3 1 8 20 5)) ≡ 0 ∷ 0 ∷ 0 ∷ 3 ∷ 1 ∷ 8 ∷ 20 ∷ 5 ∷ []
quote_numbers = refl

pub admission_numbers : asked_numbers (Admission 1 (asking 0 3 4 8 20 8)) ≡ 1 ∷ 1 ∷ 0 ∷ 3 ∷ 4 ∷ 8 ∷ 20 ∷ 8 ∷ []
admission_numbers = refl
