-- The numbers of held circuits, by their places: the place of one, which admission and release look for, and listing all.
-- Assumes nothing.
use Rattle.std.specs.Prelude.{ℕ, ◌≡◌, List, leb, length, get_or}
use Rattle.network.specs.Lists.{memb}
use Rattle.network.specs.Loops.{first}
use Rattle.area.specs.Station.{Circuit, place, held_in}
use Rattle.area.specs.Books.{holds}
use Rattle.area.specs.Order.{Rising}

abbrev pub number_at : List ℕ → ℕ → ℕ
number_at w j = get_or w (place j) 0

-- the place of circuit number c: behind those with a lower number. Where c is held its circuit stands there, and else an
-- admission puts one there
unfoldable pub place_of : List ℕ → ℕ → ℕ
unfolding first
place_of w c = first (λ j. leb c (number_at w j)) (held_in w)

-- what a listing means: as many numbers as circuits, the held ones and no other, rising, and so each once
pub record ListsHeld (cs : List Circuit) (ns : List ℕ) : Type 0 where
  pub count : length ns ≡ length cs
  pub held : (k : ℕ) → memb k ns ≡ holds cs k
  pub rising : Rising ns
