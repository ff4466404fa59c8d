-- The order of circuits, which is by rising circuit number: in the area, and so in the listing. Also when bookings are the
-- same, which have no order.
-- Assumes nothing.
use Rattle.std.specs.Prelude.{ℕ, ◌<◌, ◌≡◌, cond, List, [], ◌∷◌, ◌⊎◌, ◌↔◌, ltb}
use Rattle.network.specs.Lists.{All}
use Rattle.area.specs.Station.{Circuit}

-- each number is below all that stand behind it
abbrev pub Rising : List ℕ → Type 0
Rising [] = Unit
Rising (a ∷ l) = All (λ b. a < b) l × Rising l

-- a circuit put at its place among circuits by rising number: behind those with a lower number than its own
abbrev pub placed : Circuit → List Circuit → List Circuit
placed c [] = c ∷ []
placed c (d ∷ l) = cond (ltb d.number c.number) (d ∷ placed c l) (c ∷ d ∷ l)

-- circuits by rising number, in whatever order they are given
abbrev pub by_number : List Circuit → List Circuit
by_number [] = []
by_number (c ∷ l) = placed c (by_number l)

-- the circuit is one of these
abbrev pub Among : Circuit → List Circuit → Type 0
Among c [] = ⊥
Among c (d ∷ l) = (c ≡ d) ⊎ Among c l

-- document 01's bookings are the held circuits, in no order: two areas have the same if whatever circuit the one holds,
-- the other holds too
abbrev pub SameBookings : List Circuit → List Circuit → Type 0
SameBookings l m = (c : Circuit) → Among c l ↔ Among c m
