-- Fields one behind the other, and the turn of the loop that puts them.
-- Assumes nothing.
use mathlib.Core.Path.{◌≡◌, refl}
use mathlib.Core.List.{List, [], ◌∷◌, ◌++◌, append_assoc, append-nil}
use Prim.Native.Nat.{ℕ, ◌+◌, ◌<◌}
use native.Mathlib.Numerals.{add-one}
use lib.ListN.{length, get_or, take}
use lib.Seq.{take-suc}
use Rattle.text_format.specs.Decimal.{decimal}
use Rattle.text_format.specs.Fields.{field, fields}

-- ---- a field
pub field_is : (n : ℕ) → field n ≡ 32 ∷ decimal n
unfolding field
field_is n = refl

-- ---- fields, one by one
pub no_fields : fields [] ≡ []
unfolding fields
no_fields = refl

pub more_fields : (n : ℕ) (ns : List ℕ) → fields (n ∷ ns) ≡ field n ++ fields ns
unfolding fields
more_fields n ns = refl

pub fields_append : (ms ns : List ℕ) → fields (ms ++ ns) ≡ fields ms ++ fields ns
fields_append [] ns = simp no_fields
fields_append (m ∷ ms) ns = simp (more_fields, fields_append ms ns, append_assoc)

-- ---- the loop of `put_fields`: the fields of the first i numbers are put
pub fields_turn : (ns : List ℕ) (i : ℕ) → i < length ns → fields (take (i + 1) ns) ≡ fields (take i ns) ++ field (get_or ns i 0)
fields_turn ns i h = rw (add-one, take-suc ns i 0 h, fields_append) (simp (more_fields, no_fields, append-nil))
