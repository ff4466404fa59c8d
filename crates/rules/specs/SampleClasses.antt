-- The sample table: document 01's six service classes, as rows and as the words that a class table has for them.
-- Assumes nothing.
use Rattle.std.specs.Prelude.{ℕ, List, [], ◌∷◌}
use Rattle.network.specs.declared.Terms.{Terms}
use Rattle.network.specs.Reduce.{asks}

abbrev pub sample_rows : List Terms
sample_rows =
    -- card, PIN, tank
    asks 1 400 60 8
    ∷ asks 1 250 80 8
    ∷ asks 2 2000 40 4
    -- prices, service, pictures
    ∷ asks 2 5000 30 2
    ∷ asks 8 800 300 6
    ∷ asks 16 3000 600 2
    ∷ []

-- four words a row, one row behind the other
abbrev pub words_of : List Terms → List ℕ
words_of [] = []
words_of (s ∷ rows) = s.units ∷ s.delay_bound ∷ s.cost_bound ∷ s.coefficient ∷ words_of rows

abbrev pub sample : List ℕ
sample = words_of sample_rows
