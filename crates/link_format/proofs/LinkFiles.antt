-- The reader takes exactly the link files: what is laid out as one is accepted with its n, m and words, and what is
-- accepted is laid out as one, with the words that were read.
-- Assumes nothing.
use mathlib.Core.Path.{◌≡◌, sym, ap, ap₂, subst, ◌∙◌}
use mathlib.Core.Bool.{true}
use mathlib.Core.List.{List, ◌++◌, append_assoc}
use Prim.Native.Nat.{ℕ, ◌+◌, ◌*◌, ◌-◌, ◌^◌, ◌≤◌, ◌<◌}
use native.Mathlib.Omega.{arith}
use borrow.Author.Tests.{le-leb}
use lib.Dec.{leb}
use lib.ListN.{length, take, drop, length-append, length-drop, take-append-drop}
use lib.Pointwise.{bytes_decides}
use lib.Seq.{drop-append-add, drop-append_seam, drop-drop, length-take-le}
use Rattle.network.specs.Limits.{link_words, most_links}
use Rattle.network.proofs.Tests.{both, snd_of}
use Rattle.area.specs.Refusals.{grants}
use Rattle.link_format.specs.declared.Size.{Size}
use Rattle.link_format.specs.Format.{bytes_of, bytes_of_all, letters, trailer, AllBelow, LinkFile}
use Rattle.link_format.specs.Reading.{word_at, words_from, signed, offset_in, links_in, nodes_in, record_words, read_answer}
use Rattle.link_format.proofs.Bytes.{word_of_bytes, word_behind, word_left, words_of_bytes, bytes_of_words, bytes_left, word_fits, words_fit_lem, bytes_length}
use Rattle.link_format.proofs.Accepted.{Accepted, accepts, records_length, read_accepted, size_read}

-- ---- what is laid out as a link file
module _ (front : List ℕ) (o m n : ℕ) where
  abbrev whole : List ℕ
  whole = front ++ trailer o m n

  whole_long : length whole ≡ length front + 16
  whole_long = length-append front (trailer o m n)

  -- the trailer's words
  offset_laid : o < 2 ^ 32 → offset_in whole ≡ o
  unfolding word_at
  offset_laid small =
      let e : length whole - 16 ≡ length front + 0 = omega (arith, whole_long) in
      ap (word_at whole) e ∙ word_behind front (trailer o m n) 0 ∙ word_of_bytes o small

  links_laid : m < 2 ^ 32 → links_in whole ≡ m
  unfolding word_at
  links_laid small =
      let e : length whole - 12 ≡ length front + 4 = omega (arith, whole_long) in
      ap (word_at whole) e ∙ word_behind front (trailer o m n) 4 ∙ word_of_bytes m small

  nodes_laid : n < 2 ^ 32 → nodes_in whole ≡ n
  unfolding word_at
  nodes_laid small =
      let e : length whole - 8 ≡ length front + 8 = omega (arith, whole_long) in
      ap (word_at whole) e ∙ word_behind front (trailer o m n) 8 ∙ word_of_bytes n small

  -- its letters
  signed_laid : signed whole ≡ true
  unfolding signed
  signed_laid =
      let e : length whole - 4 ≡ length front + 12 = omega (arith, whole_long) in
      let last : drop (length whole - 4) whole ≡ letters = ap (λ (j : ℕ). drop j whole) e ∙ drop-append-add front (trailer o m n) 12 in
      both (leb 16 (length whole)) _ (le-leb 16 (length whole) (omega (arith, whole_long))) ((bytes_decides letters (drop (length whole - 4) whole)).1 (sym last))

module _ (n m : ℕ) (words notes : List ℕ) (few : m ≤ most_links) (five : length words ≡ link_words * m) (offset_fits : length notes < 2 ^ 32) where
  abbrev laid : List ℕ
  laid = notes ++ bytes_of_all words ++ trailer (length notes) m n

  -- the notes, 20 bytes a link and the trailer
  laid_long : length laid ≡ length notes + 20 * m + 16
  laid_long =
      let e = whole_long (notes ++ bytes_of_all words) (length notes) m n in
      let front = length-append notes (bytes_of_all words) in
      omega (arith, e, front, bytes_length words, five)

  abbrev offset_is : offset_in laid ≡ length notes
  offset_is = offset_laid (notes ++ bytes_of_all words) (length notes) m n offset_fits

  abbrev links_is : links_in laid ≡ m
  links_is = links_laid (notes ++ bytes_of_all words) (length notes) m n (omega arith)

  laid_accepted : (table : ℕ) → link_words * m ≤ table → Accepted laid table
  laid_accepted table enough =
      record {
        trailer = signed_laid (notes ++ bytes_of_all words) (length notes) m n;
        few = omega (arith, links_is);
        whole = omega (arith, links_is, offset_is, laid_long);
        enough = omega (arith, links_is);
      }

  laid_words : AllBelow (2 ^ 32) words → record_words laid ≡ words
  unfolding record_words
  laid_words fit =
      let part : drop (offset_in laid) laid ≡ bytes_of_all words ++ trailer (length notes) m n = ap (λ (d : ℕ). drop d laid) offset_is ∙ ap (drop (length notes)) (append_assoc notes (bytes_of_all words) (trailer (length notes) m n)) ∙ drop-append_seam notes (bytes_of_all words ++ trailer (length notes) m n) in
      let count : link_words * links_in laid ≡ length words = omega (arith, links_is, five) in
      ap₂ (λ (b : List ℕ) (k : ℕ). words_from b 0 k) part count ∙ words_of_bytes words (trailer (length notes) m n) fit

-- it is accepted with its n and m where the table has room, and its words are read
pub reads_link_file : (n m : ℕ) (words f : List ℕ) → LinkFile n m words f → (table : ℕ) → link_words * m ≤ table
    → (read_answer f table ≡ grants (record { nodes = n; links = m })) × (record_words f ≡ words)
reads_link_file n m words f is table enough =
    let notes = is.notes in
    let g = notes ++ bytes_of_all words ++ trailer (length notes) m n in
    let nodes_is = nodes_laid (notes ++ bytes_of_all words) (length notes) m n is.nodes_fit in
    let links_are = links_is n m words notes is.few is.five is.offset_fits in
    let answer = accepts g table (laid_accepted n m words notes is.few is.five is.offset_fits table enough) ∙ ap₂ (λ (a b : ℕ). grants (record { nodes = a; links = b })) nodes_is links_are in
    let read = laid_words n m words notes is.few is.five is.offset_fits is.words_fit in
    subst (λ (h : List ℕ). (read_answer h table ≡ grants (record { nodes = n; links = m })) × (record_words h ≡ words)) (sym is.laid) (answer, read)

-- ---- what is accepted
-- the letters of a file that is signed
letters_are : (f : List ℕ) → signed f ≡ true → drop (length f - 4) f ≡ letters
unfolding signed
letters_are f e = sym ((bytes_decides letters (drop (length f - 4) f)).0 (snd_of (leb 16 (length f)) _ e))

-- the last 16 bytes
module _ (f : List ℕ) (bytes : AllBelow 256 f) (s : signed f ≡ true) (d : ℕ) (behind : d + 16 ≡ length f) where
  last_long : length (drop d f) ≡ 16
  last_long = omega (arith, length-drop d f)

  last_letters : drop 12 (drop d f) ≡ letters
  last_letters =
      let e : d + 12 ≡ length f - 4 = omega arith in
      drop-drop 12 d f ∙ ap (λ (n : ℕ). drop n f) e ∙ letters_are f s

  last_trailer : drop d f ≡ trailer (offset_in f) (links_in f) (nodes_in f)
  unfolding bytes_of_all
  last_trailer =
      bytes_of_words 3 (drop d f) (omega (arith, last_long)) (bytes_left f d bytes)
      ∙ λ t. bytes_of (word 0 16 (omega arith) t) ++ bytes_of (word 4 12 (omega arith) t) ++ bytes_of (word 8 8 (omega arith) t) ++ last_letters t
    where
      word : (i back : ℕ) → d + i ≡ length f - back → word_at (drop d f) i ≡ word_at f (length f - back)
      word i back e = word_left f d i ∙ ap (word_at f) e

module _ (f : List ℕ) (bytes : AllBelow 256 f) (table : ℕ) (a : Accepted f table) where
  below : offset_in f ≤ length f
  below = omega (arith, a.whole)

  -- from the offset on: the records, and then the trailer
  records_then_trailer : drop (offset_in f) f ≡ bytes_of_all (record_words f) ++ trailer (offset_in f) (links_in f) (nodes_in f)
  unfolding record_words
  records_then_trailer =
      let k = 4 * (link_words * links_in f) in
      let long : 4 * (link_words * links_in f) ≤ length (drop (offset_in f) f) = omega (arith, a.whole, length-drop (offset_in f) f) in
      let last : offset_in f + 4 * (link_words * links_in f) + 16 ≡ length f = omega (arith, a.whole) in
      bytes_of_words (link_words * links_in f) (drop (offset_in f) f) long (bytes_left f (offset_in f) bytes)
      ∙ ap (λ (l : List ℕ). bytes_of_all (words_from (drop (offset_in f) f) 0 (link_words * links_in f)) ++ l)
      (drop-drop k (offset_in f) f ∙ last_trailer f bytes a.trailer (offset_in f + k) last)

  is_laid : f ≡ take (offset_in f) f ++ bytes_of_all (record_words f) ++ trailer (length (take (offset_in f) f)) (links_in f) (nodes_in f)
  is_laid =
      sym (take-append-drop (offset_in f) f)
      ∙ ap (λ (l : List ℕ). take (offset_in f) f ++ l) records_then_trailer
      ∙ sym (append_assoc (take (offset_in f) f) (bytes_of_all (record_words f)) (trailer (offset_in f) (links_in f) (nodes_in f)))
      ∙ ap (λ (o : ℕ). take (offset_in f) f ++ bytes_of_all (record_words f) ++ trailer o (links_in f) (nodes_in f)) (sym (length-take-le (offset_in f) f below))

  link_file : LinkFile (nodes_in f) (links_in f) (record_words f) f
  unfolding record_words
  link_file =
      record {
        notes = take (offset_in f) f;
        laid = is_laid;
        few = a.few;
        five = records_length f;
        words_fit = words_fit_lem (drop (offset_in f) f) 0 (link_words * links_in f) (bytes_left f (offset_in f) bytes);
        nodes_fit = word_fits f (length f - 8) bytes;
        offset_fits = omega (arith, length-take-le (offset_in f) f below, word_fits f (length f - 16) bytes);
      }

-- a list of bytes that is accepted is a link file with the words that were read
pub accepted_link_file : (f : List ℕ) → AllBelow 256 f → (table : ℕ) (s : Size) → read_answer f table ≡ grants s
    → LinkFile s.nodes s.links (record_words f) f
accepted_link_file f bytes table s e =
    subst (λ (z : Size). LinkFile z.nodes z.links (record_words f) f) (sym (size_read f table s e))
    (link_file f bytes table (read_accepted f table s e))
