-- What is loaded for the cases.
-- Assumes nothing.
use Rattle.std.specs.Prelude.{ℕ, List, []}
use Rattle.cases.specs.declared.Ground.{Ground}
use Rattle.cases.specs.declared.Ground.TheVariants.{OnA, AfterM8, OnNone, OnB}
use Rattle.cases.specs.Document01.{links_a, links_b}

-- the links of an area that a case stands on
abbrev pub links_for : Ground → List ℕ
links_for OnA = links_a
links_for AfterM8 = links_a
links_for OnNone = []
links_for OnB = links_b
