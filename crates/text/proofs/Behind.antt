-- Bytes put into a lent text, and bytes put behind others.
-- Assumes nothing.
use mathlib.Core.Path.{◌≡◌, refl, sym, ap, ◌∙◌}
use mathlib.Core.List.{List, [], ◌∷◌, ◌++◌}
use Prim.Native.Nat.{ℕ, suc, ◌+◌, ◌≤◌, ◌<◌}
use native.Mathlib.Nat.{add-zero}
use native.Mathlib.Omega.{arith}
use lib.ListN.{length, get_or, set, take, drop, length-append}
use lib.Seq.{sets, sets-eq, take-length}
use borrow.Rule.Slice.PartMut.{put_mid}
use Rattle.std.proofs.lemmas.Slice.{put_mid-paste}
use Rattle.text_format.specs.Fields.{field, fields}
use Rattle.text_format.proofs.Puts.{fields_turn}

-- a copy over the part from a on stores the bytes one after the other
pub put_sets : (t bytes after : List ℕ) (a n : ℕ) → after ≡ bytes → n ≡ length bytes → a + n ≤ length t → put_mid a n t after ≡ sets t a bytes
put_sets t bytes after a n is count fits =
    put_mid-paste a n t after bytes (length bytes) is (sym count) refl
    ∙ ap (λ l. take a t ++ l ++ drop (a + length bytes) t) (take-length bytes)
    ∙ sym (sets-eq bytes t a (omega arith))

-- one list and then another behind it
sets_sets : (t a b : List ℕ) (at : ℕ) → sets (sets t at a) (at + length a) b ≡ sets t at (a ++ b)
sets_sets t [] b at = rw add-zero
sets_sets t (byte ∷ a) b at =
    let e : at + suc (length a) ≡ suc at + length a = omega arith in
    rw e (sets_sets (set t at byte) a b (suc at))

-- these bytes are put from a place on, and r is the place behind them
abbrev pub Put : List ℕ → ℕ → List ℕ → List ℕ → ℕ → Type 0
Put t at bytes t' r = (r ≡ at + length bytes) × (t' ≡ sets t at bytes)

-- bytes that are put behind others are put with them
pub put_behind : (t t' t'' a b : List ℕ) (at r r' : ℕ) → Put t at a t' r → Put t' r b t'' r' → Put t at (a ++ b) t'' r'
put_behind t t' t'' a b at r r' first then = (
  omega (arith, first.0, then.0, length-append a b),
  then.1 ∙ rw (first.0, first.1) (sets_sets t a b at),
)

-- the loop of `put_fields`: the fields of the first i numbers are put, and the next is put behind them
pub fields_behind : (t t' t'' ns : List ℕ) (i at r r' : ℕ) → i < length ns
    → Put t at (fields (take i ns)) t' r → Put t' r (field (get_or ns i 0)) t'' r' → Put t at (fields (take (i + 1) ns)) t'' r'
fields_behind t t' t'' ns i at r r' h first then =
    rw (fields_turn ns i h) (put_behind t t' t'' (fields (take i ns)) (field (get_or ns i 0)) at r r' first then)
