-- What the check of an area gives besides its verdict: each link's free units, by which the calls go on.
-- Assumes nothing.
use Rattle.std.specs.Prelude.{ℕ, cond, List}
use Rattle.area.specs.Station.{station}
use Rattle.area.specs.Books.{free}
use Rattle.area.specs.Formed.{well_formed}

-- each link's free units; 0 for every link of an area that is not well formed
unfoldable pub free_in : List ℕ → ℕ → ℕ
unfolding well_formed station
free_in w i = cond (well_formed w) (free (station w) i) 0
