-- Link files: bytes that are one, and bytes that are none; a file for each refusal of the reader, and one that is read.
-- Assumes nothing.
use Prim.Native.Nat.{ℕ, ◌*◌}
use mathlib.Core.Path.{◌≡◌, refl}
use mathlib.Core.List.{List, [], ◌∷◌, ◌++◌}
use native.Mathlib.Omega.{arith}
use Rattle.area.specs.Refusals.{refuses, grants}
use Rattle.link_format.specs.Format.{bytes_of_all, trailer, letters, LinkFile}
use Rattle.link_format.specs.Reading.{word_at, signed, fills, record_words, read_answer, table_read}
use Rattle.link_format.proofs.LinkFiles.{reads_link_file}

-- one link between two nodes
abbrev pub words : List ℕ
words = 0 ∷ 1 ∷ 2 ∷ 5 ∷ 300 ∷ []

-- two bytes of notes, the record, and a trailer with an offset and a number of links
abbrev pub file : ℕ → ℕ → List ℕ
unfolding bytes_of_all
file offset m = 104 ∷ 105 ∷ bytes_of_all words ++ trailer offset m 2

-- with the right ones it is a link file
pub is_file : LinkFile 2 1 words (file 2 1)
unfolding bytes_of_all
is_file =
    record {
      notes = 104 ∷ 105 ∷ [];
      laid = refl;
      few = omega arith;
      five = refl;
      words_fit = (omega arith, (omega arith, (omega arith, (omega arith, (omega arith, tt)))));
      nodes_fit = omega arith;
      offset_fits = omega arith;
    }

-- what is refused is none, whatever its numbers
refused_none : (f : List ℕ) (k : ℕ) → ((table : ℕ) → read_answer f table ≡ refuses k)
    → (n m : ℕ) (ws : List ℕ) → LinkFile n m ws f
    → ⊥
refused_none f k refused n m ws h =
    let read = (reads_link_file n m ws f h (5 * m) (omega arith)).0 in
    let z : ◌≡◌ {A = ℕ} 0 1 = cc (refused (5 * m)) in
    omega arith

-- no bytes at all
pub none_no_file : (n m : ℕ) (ws : List ℕ) → LinkFile n m ws [] → ⊥
unfolding read_answer signed
none_no_file = refused_none [] 17 (λ table. refl)

-- an offset that is one too small
pub offset_no_file : (n m : ℕ) (ws : List ℕ) → LinkFile n m ws (file 1 1) → ⊥
unfolding bytes_of_all read_answer signed fills word_at
offset_no_file = refused_none (file 1 1) 18 (λ table. refl)

-- the reader: a file of 15 bytes, other letters in the end, 257 links, a wrong offset, a table that is a word too
-- short; a file that is read, and the table after
pub record Readings : Type 0 where
  pub short_seventeen : read_answer (0 ∷ 0 ∷ 0 ∷ 0 ∷ 0 ∷ 0 ∷ 0 ∷ 0 ∷ 2 ∷ 0 ∷ 0 ∷ letters) 5 ≡ refuses 17
  pub letters_seventeen : read_answer (file 2 1 ++ 75 ∷ []) 5 ≡ refuses 17
  pub many_eighteen : read_answer (file 2 257) 5 ≡ refuses 18
  pub offset_eighteen : read_answer (file 3 1) 5 ≡ refuses 18
  pub nineteen : read_answer (file 2 1) 4 ≡ refuses 19
  pub read : read_answer (file 2 1) 5 ≡ grants (record { nodes = 2; links = 1 })
  pub table : table_read (file 2 1) (9 ∷ 9 ∷ 9 ∷ 9 ∷ 9 ∷ 9 ∷ []) ≡ 0 ∷ 1 ∷ 2 ∷ 5 ∷ 300 ∷ 9 ∷ []

pub readings : Readings
unfolding bytes_of_all read_answer table_read record_words signed fills word_at
readings =
    record {
      short_seventeen = refl;
      letters_seventeen = refl;
      many_eighteen = refl;
      offset_eighteen = refl;
      nineteen = refl;
      read = refl;
      table = refl;
    }
