-- Which words a station is read from: equal words give equal circuits and an equal table, and a circuit's own words are
-- read as that circuit.
-- Assumes nothing.
use mathlib.Core.Path.{◌≡◌, refl, sym, ap, subst, ◌∙◌}
use mathlib.Core.List.{List, [], ◌∷◌, ◌++◌}
use Prim.Native.Nat.{ℕ, zero, suc, ◌+◌, ◌*◌, ◌-◌, ◌≤◌, ◌<◌}
use native.Mathlib.Omega.{arith}
use lib.ListN.{length, get_or, replicate, get_or-append}
use lib.Seq.{get_or-append-add, get_or-append_right}
use Rattle.std.proofs.lemmas.List.{length-append, length-replicate}
use Rattle.network.specs.Limits.{link_words, most_links, most_path_links}
use Rattle.network.specs.Lists.{from}
use Rattle.network.proofs.Listed.{from_alike}
use Rattle.area.specs.Layout.{circuit_words, first_hold, first_link, path_start}
use Rattle.area.specs.Station.{Circuit, words_at, place, circuit_of, words_in, circuit_at, table_in}
use Rattle.area.specs.Formed.{UnusedClear}
use Rattle.area.specs.Moves.{words_of, Untouched}
use Rattle.area.proofs.WordsAt.{words_same, words_list}

-- ---- the words of one circuit
-- equal words give equal circuits
pub circuit_same : (w w' : List ℕ) (j j' : ℕ) → ((i : ℕ) → i < circuit_words → get_or w' (place j' + i) 0 ≡ get_or w (place j + i) 0)
    → circuit_at w' j' ≡ circuit_at w j
circuit_same w w' j j' h = ap circuit_of (words_same w w' (place j) (place j') circuit_words h)

-- and where the unused path words of the one are 0, those of the other are
pub clear_same : (w w' : List ℕ) (j j' : ℕ)
    → ((i : ℕ) → i < circuit_words → get_or w' (place j' + i) 0 ≡ get_or w (place j + i) 0)
    → UnusedClear (words_in w j) → UnusedClear (words_in w' j')
clear_same w w' j j' h = subst UnusedClear (sym (words_same w w' (place j) (place j') circuit_words h))

-- words that begin with a circuit's are read as that circuit
pub circuit_read : (v : List ℕ) (c : Circuit)
    → ((i : ℕ) → i < path_start + length c.path → get_or v i 0 ≡ get_or (words_of c) i 0)
    → circuit_of v ≡ c
unfolding circuit_of
circuit_read v c h = λ t. record { number = h 0 (omega arith) t; units = h 1 (omega arith) t; path = path t }
  where
    left : List ℕ
    left = replicate (most_path_links - length c.path) 0

    path : words_at v 3 (get_or v 2 0) ≡ c.path
    path =
        rw (h 2 (omega arith))
        (words_list v 3 c.path
        λ i low.
        h (3 + i) (omega arith)
        ∙ get_or-append-add (c.number ∷ c.units ∷ length c.path ∷ []) (c.path ++ left) i 0
        ∙ get_or-append c.path left 0 i low)

-- a word among n equal ones is that one, and so is the word read past them
alike_at : (n z i : ℕ) → get_or (replicate n z) i z ≡ z
alike_at zero z i = refl
alike_at (suc n) z zero = refl
alike_at (suc n) z (suc i) = alike_at n z i

-- each path word that is left is 0
pub words_left : (c : Circuit) (i : ℕ) → path_start + length c.path ≤ i → get_or (words_of c) i 0 ≡ 0
words_left c i high =
    get_or-append_right (c.number ∷ c.units ∷ length c.path ∷ c.path) (replicate (most_path_links - length c.path) 0) i 0
    (omega arith)
    ∙ alike_at (most_path_links - length c.path) 0 _

-- a circuit has as many words as the area holds of each
pub words_of_length : (c : Circuit) → length c.path ≤ most_path_links → length (words_of c) ≡ circuit_words
words_of_length c short = rw (length-append, length-replicate) (omega arith)

-- ---- the words of several
-- the circuits at n places are those at as many other places, where their words are
pub circuits_alike : (w w' : List ℕ) (j j' n : ℕ)
    → ((k i : ℕ) → k < n → i < circuit_words → get_or w' (place (j' + k) + i) 0 ≡ get_or w (place (j + k) + i) 0)
    → from (circuit_at w') j' n ≡ from (circuit_at w) j n
circuits_alike w w' j j' n h =
    from_alike (circuit_at w') (circuit_at w) j' j n λ k low. circuit_same w w' (j + k) (j' + k) (λ i small. h k i low small)

-- ---- the table
-- a store that leaves the table's words leaves the table
pub table_untouched : (w w' : List ℕ) → Untouched w w' → get_or w 1 0 ≤ most_links → table_in w' ≡ table_in w
unfolding table_in
table_untouched w w' same few = λ t. record { nodes = same.nodes t; links = same.links t; words = words t; hold_times = held t }
  where
    words : words_at w' first_link (link_words * get_or w' 1 0) ≡ words_at w first_link (link_words * get_or w 1 0)
    words = rw same.links (words_same w w' 3 3 (link_words * get_or w 1 0) λ i low. same.table (3 + i) (omega arith) (omega arith))

    held : words_at w' first_hold (get_or w' 0 0) ≡ words_at w first_hold (get_or w 0 0)
    held = rw same.nodes (words_same w w' first_hold first_hold (get_or w 0 0) λ i low. same.past (first_hold + i) (omega arith))
