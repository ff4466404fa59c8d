-- Words and their bytes: a word is read from its four bytes, and four bytes are those of the word read from them.
-- Assumes nothing.
use mathlib.Core.Path.{◌≡◌, refl, sym, ap, ap₂, ◌∙◌}
use mathlib.Core.List.{List, [], ◌∷◌, ◌++◌, append_assoc}
use Prim.Native.Nat.{ℕ, zero, suc, ◌+◌, ◌*◌, ◌/◌, ◌%◌, ◌^◌, ◌≤◌, ◌<◌}
use native.Mathlib.Omega.{arith}
use lib.ListN.{length, get_or, drop}
use lib.Seq.{get_or-append-add, get_or-drop, drop-append-add}
use Rattle.link_format.specs.Format.{bytes_of, bytes_of_all, AllBelow}
use Rattle.link_format.specs.Reading.{word_at, words_from}

-- ---- a word from its bytes
pub word_of_bytes : (w : ℕ) → w < 2 ^ 32 → w % 256 + 256 * (w / 256 % 256) + 65536 * (w / 65536 % 256 + 256 * (w / 16777216 % 256)) ≡ w
word_of_bytes w small =
    let second : w / 256 / 256 ≡ w / 65536 = omega arith in
    let third : w / 65536 / 256 ≡ w / 16777216 = omega arith in
    let fourth : w / 16777216 / 256 ≡ 0 = omega arith in
    omega (arith, second, third, fourth)

-- four places of a list that is read from a start on
four_places : (b c : List ℕ) (i j : ℕ) → ((a : ℕ) → get_or b (i + a) 0 ≡ get_or c (j + a) 0) → word_at b i ≡ word_at c j
unfolding word_at
four_places b c i j same =
    let p : i ≡ i + 0 = omega arith in
    let q : j + 0 ≡ j = omega arith in
    let first : get_or b i 0 ≡ get_or c j 0 = ap (λ (n : ℕ). get_or b n 0) p ∙ same 0 ∙ ap (λ (n : ℕ). get_or c n 0) q in
    rw (first, same 1, same 2, same 3)

-- behind a front, and in what is left behind a front
pub word_behind : (front b : List ℕ) (i : ℕ) → word_at (front ++ b) (length front + i) ≡ word_at b i
word_behind front b i =
    four_places (front ++ b) b (length front + i) i λ a.
    let e : length front + i + a ≡ length front + (i + a) = omega arith in
    ap (λ (n : ℕ). get_or (front ++ b) n 0) e ∙ get_or-append-add front b (i + a) 0

pub word_left : (b : List ℕ) (d i : ℕ) → word_at (drop d b) i ≡ word_at b (d + i)
word_left b d i =
    four_places (drop d b) b i (d + i) λ a.
    let e : d + (i + a) ≡ d + i + a = omega arith in
    get_or-drop d b (i + a) 0 ∙ ap (λ (n : ℕ). get_or b n 0) e

-- words behind a first word
words_behind : (u y z w : ℕ) (b : List ℕ) (i k : ℕ) → words_from (u ∷ y ∷ z ∷ w ∷ b) (suc i) k ≡ words_from b i k
words_behind u y z w b i zero = refl
words_behind u y z w b i (suc k) =
    let e : 4 * suc i ≡ 4 + 4 * i = omega arith in
    ap₂ {C = List ℕ} ◌∷◌ (ap (word_at (u ∷ y ∷ z ∷ w ∷ b)) e ∙ word_behind (u ∷ y ∷ z ∷ w ∷ []) b (4 * i)) (words_behind u y z w b (suc i) k)

-- the words that were put are read
pub words_of_bytes : (ws rest : List ℕ) → AllBelow (2 ^ 32) ws → words_from (bytes_of_all ws ++ rest) 0 (length ws) ≡ ws
unfolding bytes_of_all word_at
words_of_bytes [] rest fit = refl
words_of_bytes (w ∷ ws) rest fit =
    ap₂ {C = List ℕ} ◌∷◌ (word_of_bytes w fit.0) (words_behind _ _ _ _ (bytes_of_all ws ++ rest) 0 (length ws) ∙ words_of_bytes ws rest fit.1)

-- ---- bytes of the word read from them
low_digit : (y r : ℕ) → y < 256 → (y + 256 * r) % 256 ≡ y
low_digit y r low = omega arith

bytes_of_word : (u y z w : ℕ) → u < 256 → y < 256 → z < 256 → w < 256
    → bytes_of (u + 256 * y + 65536 * (z + 256 * w)) ≡ u ∷ y ∷ z ∷ w ∷ []
bytes_of_word u y z w a b c d =
    let by0 : (u + 256 * y + 65536 * (z + 256 * w)) ≡ u + 256 * (y + 256 * (z + 256 * w)) = omega arith in
    let by1 : (u + 256 * y + 65536 * (z + 256 * w)) / 256 ≡ y + 256 * (z + 256 * w) = omega arith in
    let by2 : (u + 256 * y + 65536 * (z + 256 * w)) / 65536 ≡ z + 256 * w = omega arith in
    let by3 : (u + 256 * y + 65536 * (z + 256 * w)) / 16777216 ≡ w + 256 * 0 = omega arith in
    let first = ap (λ (v : ℕ). v % 256) by0 ∙ low_digit u _ a in
    let second = ap (λ (v : ℕ). v % 256) by1 ∙ low_digit y _ b in
    let third = ap (λ (v : ℕ). v % 256) by2 ∙ low_digit z _ c in
    let fourth = ap (λ (v : ℕ). v % 256) by3 ∙ low_digit w 0 d in
    λ t. first t ∷ second t ∷ third t ∷ fourth t ∷ []

-- a list of bytes begins with the bytes of the words read from it
pub bytes_of_words : (k : ℕ) (b : List ℕ) → 4 * k ≤ length b → AllBelow 256 b → b ≡ bytes_of_all (words_from b 0 k) ++ drop (4 * k) b
unfolding bytes_of_all word_at
bytes_of_words zero b long bytes = refl
bytes_of_words (suc k) [] long bytes = absurd (omega arith)
bytes_of_words (suc k) (u ∷ []) long bytes = absurd (omega arith)
bytes_of_words (suc k) (u ∷ y ∷ []) long bytes = absurd (omega arith)
bytes_of_words (suc k) (u ∷ y ∷ z ∷ []) long bytes = absurd (omega arith)
bytes_of_words (suc k) (u ∷ y ∷ z ∷ w ∷ b) long bytes =
    let rest = bytes.1.1.1.1 in
    let e : 4 + 4 * k ≡ 4 * suc k = omega arith in
    ap₂ {C = List ℕ} ◌++◌ (sym (bytes_of_word u y z w bytes.0 bytes.1.0 bytes.1.1.0 bytes.1.1.1.0))
    (bytes_of_words k b (omega arith) rest
    ∙ ap₂ {C = List ℕ} (λ (ws d : List ℕ). bytes_of_all ws ++ d) (sym (words_behind u y z w b 0 k))
    (sym (drop-append-add (u ∷ y ∷ z ∷ w ∷ []) b (4 * k)) ∙ ap (λ (n : ℕ). drop n (u ∷ y ∷ z ∷ w ∷ b)) e))
    ∙ sym (append_assoc (bytes_of (u + 256 * y + 65536 * (z + 256 * w))) (bytes_of_all (words_from (u ∷ y ∷ z ∷ w ∷ b) 1 k)) (drop (4 * suc k) (u ∷ y ∷ z ∷ w ∷ b)))

-- ---- ranges
pub byte_below : (b : List ℕ) (i : ℕ) → AllBelow 256 b → get_or b i 0 < 256
byte_below [] i bytes = omega arith
byte_below (u ∷ b) zero bytes = bytes.0
byte_below (u ∷ b) (suc i) bytes = byte_below b i bytes.1

pub bytes_left : (b : List ℕ) (d : ℕ) → AllBelow 256 b → AllBelow 256 (drop d b)
bytes_left [] zero bytes = bytes
bytes_left [] (suc d) bytes = bytes
bytes_left (u ∷ b) zero bytes = bytes
bytes_left (u ∷ b) (suc d) bytes = bytes_left b d bytes.1

pub word_fits : (b : List ℕ) (i : ℕ) → AllBelow 256 b → word_at b i < 2 ^ 32
unfolding word_at
word_fits b i bytes =
    omega (arith, byte_below b i bytes, byte_below b (i + 1) bytes, byte_below b (i + 2) bytes, byte_below b (i + 3) bytes)

pub words_fit_lem : (b : List ℕ) (i k : ℕ) → AllBelow 256 b → AllBelow (2 ^ 32) (words_from b i k)
words_fit_lem b i zero bytes = tt
words_fit_lem b i (suc k) bytes = (word_fits b (4 * i) bytes, words_fit_lem b (suc i) k bytes)

pub bytes_length : (ws : List ℕ) → length (bytes_of_all ws) ≡ 4 * length ws
unfolding bytes_of_all
bytes_length [] = refl
bytes_length (w ∷ ws) = let e = bytes_length ws in omega (arith, e)
