-- Cases of class tables, by hand from Req 01: words, a class, and what the check and the class call answer. What a case says is
-- what the answers mean, with no algorithm in it.
-- Assumes nothing.
use Rattle.std.specs.Prelude.{ℕ, zero, suc, List, [], ◌∷◌, ◌++◌, replicate}
use Rattle.network.specs.declared.Terms.{Terms}
use Rattle.area.specs.Refusals.{Reply, refuses, grants}
use Rattle.network.specs.Reduce.{asks}
use Rattle.rules.specs.Classes.{CheckMeans, ClassMeans}
use Rattle.rules.specs.SampleClasses.{sample}

-- ---- the words
-- units, D, C and coefficient
abbrev row : ℕ → ℕ → ℕ → ℕ → List ℕ
row b d c f = b ∷ d ∷ c ∷ f ∷ []

-- a card's row, and so many of it
abbrev card : List ℕ
card = row 1 400 60 8

abbrev cards : ℕ → List ℕ
cards zero = []
cards (suc k) = card ++ cards k

-- ---- the cases
pub record ClassCase : Type 0 where
  pub words : List ℕ
  pub class : ℕ
  pub check : Reply (Unit {0})
  pub answer : Reply Terms

-- a table that is refused with this number, whatever the class
abbrev refused : List ℕ → ℕ → ℕ → ClassCase
refused words k j = record { words = words; class = k; check = refuses j; answer = refuses j }

-- a table that is accepted
abbrev accepted : List ℕ → ℕ → Reply Terms → ClassCase
accepted words k a = record { words = words; class = k; check = (grants tt); answer = a }

abbrev pub class_cases : List ClassCase
class_cases =
    -- 20: no word, no whole row, 65 rows
    refused [] 0 20
    ∷ refused (replicate 3 1) 0 20
    ∷ refused (card ++ 1 ∷ []) 0 20
    ∷ refused (replicate 255 1) 0 20
    ∷ refused (replicate 257 1) 0 20
    ∷ refused (cards 65) 0 20
    -- 1 row and 64 rows; 16: the class is not below the row count
    ∷ accepted card 0 (grants (asks 1 400 60 8))
    ∷ accepted card 1 (refuses 16)
    ∷ accepted (cards 64) 63 (grants (asks 1 400 60 8))
    ∷ accepted (cards 64) 64 (refuses 16)
    ∷ accepted card 4294967295 (refuses 16)
    -- the ends of the ranges
    ∷ accepted (row 1 0 0 1 ++ row 65535 61000000 31000000 8) 0 (grants (asks 1 0 0 1))
    ∷ accepted (row 1 0 0 1 ++ row 65535 61000000 31000000 8) 1 (grants (asks 65535 61000000 31000000 8))
    -- 21: a number past either end, in whatever row the class is not
    ∷ refused (card ++ row 0 400 60 8) 0 21
    ∷ refused (card ++ row 65536 400 60 8) 0 21
    ∷ refused (card ++ row 1 61000001 60 8) 0 21
    ∷ refused (card ++ row 1 400 31000001 8) 0 21
    ∷ refused (card ++ row 1 400 60 0) 0 21
    ∷ refused (card ++ row 1 400 60 9) 0 21
    -- 20 and 21 ahead of 16, and 20 ahead of 21
    ∷ refused (replicate 6 0) 9 20
    ∷ refused (row 1 400 60 9) 9 21
    -- the sample table: its last row, and the class behind it
    ∷ accepted sample 5 (grants (asks 16 3000 600 2))
    ∷ accepted sample 6 (refuses 16)
    ∷ []

abbrev pub ClassCaseHolds : ClassCase → Type 0
ClassCaseHolds c = CheckMeans c.words c.check × ClassMeans c.words c.class c.answer
