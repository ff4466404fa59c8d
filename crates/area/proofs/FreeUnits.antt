-- A link is usable for a request exactly where its free units are at least the units asked for; and free units are what the circuits leave of
-- the capacity.
-- Assumes nothing.
use Prim.Native.Nat.{ℕ, ◌+◌, ◌≤◌, ◌<◌}
use mathlib.Core.Path.{◌≡◌}
use mathlib.Core.Bool.{true}
use mathlib.Core.Logic.{◌↔◌}
use native.Mathlib.Omega.{arith}
use borrow.Author.Tests.{leb-true, le-leb}
use Rattle.network.specs.declared.Request.{Request}
use Rattle.area.specs.Station.{Station, capacity_of}
use Rattle.area.specs.Books.{Books, usage, free, net}
use Rattle.area.specs.Formed.{SoundStation}

pub usable_exactly : (o : Books) (r : Request) (i : ℕ) → ((net o r).usable i ≡ true) ↔ (r.terms.units ≤ o.free i)
unfolding net
usable_exactly o r i = (leb-true r.terms.units (o.free i), le-leb r.terms.units (o.free i))

-- in a sound station nothing is lost by the subtraction
pub free_units : (s : Station) → SoundStation s → (i : ℕ) → i < s.table.links → free s i + usage s.held i ≡ capacity_of s.table i
free_units s sound i low = omega (arith, sound.within i low)
