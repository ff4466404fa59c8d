-- What the checks and the reading calls answer depends on the table and on the first 34 × h words of circuits alone: words
-- past the last circuit, and those of the table that it is not read from, make no difference.
-- Assumes nothing.
use Prim.Native.Nat.{ℕ, zero, suc, ◌+◌, ◌*◌, ◌<◌}
use mathlib.Core.Path.{◌≡◌, refl, sym, ap, ap₂, ◌∙◌}
use mathlib.Core.Bool.{Bool, ◌&&◌}
use mathlib.Core.List.{List, [], ◌∷◌, ◌++◌}
use native.Mathlib.Nat.{zero-add}
use native.Mathlib.Omega.{arith}
use lib.Dec.{ltb, leb}
use lib.ListN.{length, get_or, drop}
use Rattle.network.proofs.Listed.{from_alike}
use Rattle.network.proofs.Loops.{every_alike}
use Rattle.area.specs.Layout.{area_words, circuit_words, first_circuit, most_circuits}
use Rattle.area.specs.Station.{Station, Table, place, circuit_of, words_in, circuit_at, circuits, held_in, held_words, station, table_in}
use Rattle.area.specs.Books.{free, numbers}
use Rattle.area.specs.Held.{number_at}
use Rattle.area.specs.Formed.{table_fits, numbers_fit, unused_clear, path_fits, rises, words_fit, place_fits, places_fit, circuits_fit, units_fit, well_formed}
use Rattle.area.specs.Checks.{◌unless◌, checked}
use Rattle.area.specs.Refusals.{refuses, grants}
use Rattle.area.specs.Reads.{list_answer, listed, free_answer}
use Rattle.area.proofs.WordsAt.{words_at_lem, words_same}
use Rattle.area.proofs.Found.{circuit_number}

-- ---- the test of a place, by the circuit's words and its order
abbrev place_by : ℕ → List ℕ → List ℕ → Bool → Bool
place_by m links c rising = (numbers_fit (circuit_of c) && (unused_clear c && rising)) && path_fits m links (circuit_of c).path

module _ (w w' : List ℕ) (table : table_in w ≡ table_in w') (count : held_in w ≡ held_in w') (words : held_words w ≡ held_words w') where
  -- each circuit's words, and so what they say
  words_depend : (j : ℕ) → j < held_in w → words_in w j ≡ words_in w' j
  words_depend j low =
      words_same w' w (place j) (place j) circuit_words λ i small.
      let at : place j + i ≡ first_circuit + (circuit_words * j + i) = omega arith in
      rw at
      (sym (words_at_lem w first_circuit (circuit_words * held_in w) (circuit_words * j + i) (omega arith))
      ∙ ap (λ (l : List ℕ). get_or l (circuit_words * j + i) 0) words
      ∙ words_at_lem w' first_circuit (circuit_words * held_in w') (circuit_words * j + i) (omega (arith, count)))

  number_depends : (j : ℕ) → j < held_in w → number_at w j ≡ number_at w' j
  number_depends j low = sym (circuit_number w j) ∙ ap (λ (l : List ℕ). (circuit_of l).number) (words_depend j low) ∙ circuit_number w' j

  circuits_depend : circuits w (held_in w) ≡ circuits w' (held_in w)
  circuits_depend = from_alike (circuit_at w) (circuit_at w') 0 0 (held_in w) λ j low. rw (zero-add j) (ap circuit_of (words_depend j low))

  rises_depend : (j : ℕ) → j < held_in w → rises w j ≡ rises w' j
  rises_depend zero low = refl
  rises_depend (suc j) low = ap₂ ltb (number_depends j (omega arith)) (number_depends (suc j) low)

  place_depends : (m : ℕ) (links : List ℕ) (j : ℕ) → j < held_in w → place_fits m links w j ≡ place_fits m links w' j
  unfolding place_fits words_fit
  place_depends m links j low = ap₂ (place_by m links) (words_depend j low) (rises_depend j low)

  circuits_fit_alike : (m : ℕ) (links : List ℕ) → circuits_fit m links w (held_in w) ≡ circuits_fit m links w' (held_in w)
  unfolding circuits_fit places_fit
  circuits_fit_alike m links =
      ap₂ ◌&&◌ (every_alike (place_fits m links w) (place_fits m links w') (held_in w) (place_depends m links))
      (ap (units_fit m links) circuits_depend)

  -- the station
  pub station_depends : station w ≡ station w'
  unfolding station
  station_depends = λ t. record { table = table t; held = (circuits_depend ∙ ap (circuits w') count) t }

  module _ (long : leb area_words (length w) ≡ leb area_words (length w')) where
    pub formed_depends : well_formed w ≡ well_formed w'
    unfolding well_formed table_in
    formed_depends =
        ap₂ ◌&&◌ long
        (ap₂ ◌&&◌ (ap table_fits table)
        (ap₂ ◌&&◌ (ap (λ (h : ℕ). leb h most_circuits) count)
        (circuits_fit_alike (table_in w).links (table_in w).words
        ∙ ap₂ (λ (t : Table) (h : ℕ). circuits_fit t.links t.words w' h) table count)))

    pub list_depends : (buffer : ℕ) → list_answer w buffer ≡ list_answer w' buffer
    unfolding list_answer
    list_depends buffer = rw (formed_depends, count) refl

    pub free_depends : (i : ℕ) → free_answer w i ≡ free_answer w' i
    unfolding free_answer station table_in
    free_depends i =
        ap₂ (λ (formed : Bool) (s : Station). checked refuses ((5 unless formed) ∷ (15 unless ltb i s.table.links) ∷ []) (grants (free s i)))
        formed_depends station_depends

    -- the buffer after a listing
    pub listed_depends : (l : List ℕ) → listed w l ≡ listed w' l
    unfolding listed
    listed_depends l =
        ap₂ (λ (formed : Bool) (s : Station). checked (λ _. l) ((5 unless formed) ∷ (14 unless leb (held_in w) (length l)) ∷ []) (numbers s.held ++ drop (held_in w) l))
        formed_depends station_depends
        ∙ ap (λ (h : ℕ). checked (λ _. l) ((5 unless well_formed w') ∷ (14 unless leb h (length l)) ∷ []) (numbers (station w').held ++ drop h l)) count
