-- Words copied over a part of the area, and what the stores of an admission and of a release come to.
-- Assumes nothing.
use mathlib.Core.Path.{◌≡◌, refl, sym, ap, ◌∙◌}
use mathlib.Core.List.{List, ◌++◌}
use Prim.Native.Nat.{ℕ, ◌+◌, ◌-◌, ◌*◌, ◌≤◌, ◌<◌}
use native.Mathlib.Numerals.{towards_suc}
use native.Mathlib.Omega.{arith}
use lib.ListN.{length, get_or, set, take, drop, replicate, length-set}
use lib.Seq.{sets, sets-eq, length-sets, take-length}
use borrow.Rule.Slice.PartMut.{put_mid}
use Rattle.std.proofs.lemmas.List.{length-replicate}
use Rattle.std.proofs.lemmas.Slice.{put_mid-paste}
use Rattle.network.specs.Limits.{most_path_links}
use Rattle.area.specs.Layout.{circuit_words}
use Rattle.area.specs.Station.{Circuit, place}
use Rattle.area.specs.Moves.{words_of, opened, added, closed, removed}
use Rattle.area.proofs.Sets.{sets_both}
use Rattle.area.proofs.WordsAt.{words_length, words_part}

-- ---- words copied
-- a copy over the part from a on stores the words one after the other
pub put_sets : (w words after : List ℕ) (a n : ℕ) → after ≡ words → n ≡ length words → a + n ≤ length w → put_mid a n w after ≡ sets w a words
put_sets w words after a n is count fits =
    put_mid-paste a n w after words (length words) is (sym count) refl
    ∙ ap (λ l. take a w ++ l ++ drop (a + length words) w) (take-length words)
    ∙ sym (sets-eq words w a (omega arith))

-- ---- the stores of an admission and of a release
-- a circuit's number, units and link count, with its path copied behind them
abbrev pub with_path : List ℕ → Circuit → ℕ → ℕ → List ℕ → List ℕ
with_path w c at n after = put_mid (at + 3) n (set (set (set w at c.number) (at + 1) c.units) (at + 2) (length c.path)) after

-- and as many zeros behind those as there are path words left, are the circuit's words
pub circuit_put : (w : List ℕ) (c : Circuit) (after left : List ℕ) (at n m : ℕ)
    → after ≡ c.path → n ≡ length c.path → m ≡ most_path_links - length c.path
    → left ≡ replicate (length (take m (drop (at + 3 + length c.path) (with_path w c at n after)))) 0
    → length c.path ≤ most_path_links → at + circuit_words ≤ length w
    → put_mid (at + 3 + length c.path) m (with_path w c at n after) left ≡ sets w at (words_of c)
circuit_put w c after left at n m is count rest zeros short fits =
    rw copied
    (put_sets (sets first (at + 3) c.path) (replicate m 0) left (at + 3 + length c.path) m
    (zeros ∙ ap (λ k. replicate k 0) many) (sym (length-replicate m 0)) (omega (arith, long))
    ∙ sym (sets_both first (at + 3) c.path (replicate m 0))
    ∙ rw rest (simp towards_suc))
  where
    first : List ℕ
    first = set (set (set w at c.number) (at + 1) c.units) (at + 2) (length c.path)

    copied : with_path w c at n after ≡ sets first (at + 3) c.path
    copied = put_sets first c.path after (at + 3) n is count (simp length-set (omega arith))

    long : length (sets first (at + 3) c.path) ≡ length w
    long = simp (length-sets, length-set)

    many : length (take m (drop (at + 3 + length c.path) (with_path w c at n after))) ≡ m
    many =
        rw copied
        (ap length (words_part (sets first (at + 3) c.path) (at + 3 + length c.path) m (omega (arith, long)))
        ∙ words_length (sets first (at + 3) c.path) (at + 3 + length c.path) m)

-- a gap opened at place j, a circuit's words put in it, and the count
pub added_words : (w : List ℕ) (j : ℕ) (c : Circuit) (at end : ℕ) → at ≡ place j → end ≡ place (get_or w 2 0) → j ≤ get_or w 2 0
    → set (sets (opened w at (end - at)) at (words_of c)) 2 (get_or w 2 0 + 1) ≡ added w j c
unfolding added
added_words w j c at end e e' most =
    let n : end - at ≡ circuit_words * (get_or w 2 0 - j) = omega arith in
    rw (n, e)

-- the words from circuit j's place to before the last circuit's place move up, and then the count is stored
pub removed_words : (w : List ℕ) (j at end h : ℕ) → at ≡ place j → end ≡ place (h - 1) → h ≡ get_or w 2 0 → j < h
    → set (closed w at (end - at)) 2 (get_or w 2 0 - 1) ≡ removed w j
unfolding removed
removed_words w j at end h e e' same low =
    let n : end - at ≡ circuit_words * (get_or w 2 0 - 1 - j) = omega arith in
    rw (n, e)
