-- Loops that store a list: what the loop has yet to store, stored from here, comes to the same. The list is given, or it
-- is what a function gives for the numbers from 0 on.
-- Assumes nothing.
use mathlib.Core.Path.{◌≡◌, ◌∙◌}
use mathlib.Core.List.{List, ◌++◌}
use Prim.Native.Nat.{ℕ, zero, suc, ◌+◌, ◌-◌, ◌≤◌, ◌<◌}
use native.Mathlib.Nat.{add-zero, zero-add, sub-zero}
use native.Mathlib.Numerals.{add-one}
use native.Mathlib.Omega.{arith}
use lib.ListN.{length, get_or, set, drop, drop_of_length-le}
use lib.Seq.{sets, drop-cons, sets-eq}
use Rattle.network.specs.Lists.{from}
use Rattle.network.proofs.Listed.{from_length}

-- ---- a list that is given, from a place on
-- before the first turn all is left to store
pub put_none : (w words : List ℕ) (at : ℕ) → sets w (at + 0) (drop 0 words) ≡ sets w at words
put_none w words at = rw add-zero

-- a turn stores number i at at + i
pub put_turn : (w words : List ℕ) (at i : ℕ) → i < length words
    → sets (set w (at + i) (get_or words i 0)) (at + (i + 1)) (drop (i + 1) words) ≡ sets w (at + i) (drop i words)
put_turn w words at i h =
    let e : at + (i + 1) ≡ suc (at + i) = omega arith in
    rw (e, add-one, drop-cons words i 0 h)

-- nothing is left to store
pub put_end : (w words : List ℕ) (at i : ℕ) → length words ≤ i → w ≡ sets w at (drop i words)
put_end w words at i h = rw (drop_of_length-le words {i = i} h)

-- ---- what a function gives, from the first place on
-- before the first turn all is left to store
pub from_none : (f : ℕ → ℕ) (t : List ℕ) (n : ℕ) → sets t 0 (from f 0 (n - 0)) ≡ sets t 0 (from f 0 n)
from_none f t n = rw sub-zero

-- a turn stores what the function gives for i
pub from_turn : (f : ℕ → ℕ) (t : List ℕ) (i n word : ℕ) → i < n → word ≡ f i
    → sets (set t i word) (i + 1) (from f (i + 1) (n - (i + 1))) ≡ sets t i (from f i (n - i))
from_turn f t i n word low e =
    let d : n - i ≡ suc (n - (i + 1)) = omega arith in
    rw (e, d, add-one)

-- nothing is left to store
pub from_end_lem : (f : ℕ → ℕ) (t : List ℕ) (i n : ℕ) → n ≤ i → t ≡ sets t i (from f i (n - i))
from_end_lem f t i n high =
    let e : n - i ≡ zero = omega arith in
    rw e

-- the numbers stand in front, and the words past them keep theirs
pub from_stored : (f : ℕ → ℕ) (t : List ℕ) (n : ℕ) → n ≤ length t → sets t 0 (from f 0 n) ≡ from f 0 n ++ drop n t
from_stored f t n fits =
    let e : length (from f 0 n) ≡ n = from_length f 0 n in
    sets-eq (from f 0 n) t 0 (omega arith) ∙ rw (e, zero-add)
