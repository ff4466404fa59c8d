-- What the C functions give for an answer of a call: 0 where it grants, or else the papers' refusal number; and the words of
-- the answer array after, which a refusal leaves as they stood.
-- Assumes nothing.
use Rattle.std.specs.Prelude.{ℕ, List, [], ◌∷◌}
use Rattle.network.specs.declared.Grant.{Grant}
use Rattle.network.specs.declared.Terms.{Terms}
use Rattle.network.specs.Reduce.{problem_number}
use Rattle.area.specs.Refusals.{Reply, refuses, grants}
use Rattle.link_format.specs.declared.Size.{Size}

unfoldable pub code : {A : Type 0} → Reply A → ℕ
code (refuses k) = k
code (grants a) = 0

-- `words` are those of what is granted
unfoldable pub words_after : {A : Type 0} → (A → List ℕ) → Reply A → List ℕ → List ℕ
words_after words (refuses k) before = before
words_after words (grants a) before = words a

-- ---- what is granted, in the order in which C reads it
-- quote and admission: problem, delay, cost, links
unfoldable pub grant_words : Grant → List ℕ
grant_words g = problem_number g.problem ∷ g.delay ∷ g.cost ∷ g.links ∷ []

-- listing, free units and all jobs in one call: how many circuits, the units, or how many jobs
unfoldable pub value_words : ℕ → List ℕ
value_words v = v ∷ []

-- a class: units, D, C, coefficient
unfoldable pub terms_words : Terms → List ℕ
terms_words s = s.units ∷ s.delay_bound ∷ s.cost_bound ∷ s.coefficient ∷ []

-- a link file: n, m
unfoldable pub size_words : Size → List ℕ
size_words s = s.nodes ∷ s.links ∷ []
