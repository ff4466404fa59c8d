-- The check of an area, one answer for each of the code's returns: the first part that fails makes the area not well
-- formed, and where only the circuits and their units are left to check, they decide.
-- Assumes nothing.
use Prim.Native.Nat.{ℕ, ◌-◌, ◌≤◌, ◌<◌}
use mathlib.Core.Path.{◌≡◌, refl}
use mathlib.Core.Bool.{true, false}
use mathlib.Core.List.{List}
use lib.ListN.{length}
use borrow.Author.Tests.{le-leb, lt-leb}
use Rattle.network.specs.Words.{field}
use Rattle.area.specs.Layout.{area_words, most_circuits}
use Rattle.area.specs.Station.{links_in, held_in, table_in, station, circuits}
use Rattle.area.specs.Books.{usage}
use Rattle.area.specs.Formed.{table_fits, circuits_fit, well_formed}
use Rattle.area.specs.FreeIn.{free_in}

module _ (w : List ℕ) where
  pub area_short : length w < area_words → false ≡ well_formed w
  unfolding well_formed
  area_short h = rw (lt-leb area_words (length w) h) refl

  module _ (long : area_words ≤ length w) where
    pub table_out : false ≡ table_fits (table_in w) → false ≡ well_formed w
    unfolding well_formed
    table_out e = rw (le-leb area_words (length w) long, ← e) refl

    module _ (fits : true ≡ table_fits (table_in w)) where
      pub circuits_many : most_circuits < held_in w → false ≡ well_formed w
      unfolding well_formed
      circuits_many h = rw (le-leb area_words (length w) long, ← fits, lt-leb (held_in w) most_circuits h) refl

      -- the links and their words as the code holds them
      module _ (few : held_in w ≤ most_circuits) (m h : ℕ) (words : List ℕ) (is_m : m ≡ links_in w) (is_words : words ≡ (table_in w).words)
          (is_h : h ≡ held_in w) where
        -- the circuits and their units decide
        pub circuits_left : circuits_fit m words w h ≡ well_formed w
        unfolding well_formed
        circuits_left =
            rw (is_m, is_words, is_h, le-leb area_words (length w) long, ← fits, le-leb (held_in w) most_circuits few) refl

        -- and what the circuits leave is free
        pub units_left : true ≡ well_formed w → (i : ℕ) → field words i 4 - usage (circuits w h) i ≡ free_in w i
        unfolding free_in station table_in
        units_left e i = rw (← e, is_words, is_h) refl
