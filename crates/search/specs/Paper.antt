-- The algorithms of section 2.2 of the paper, each line of Initialize, Relax and EBF as it is printed there, to be laid
-- beside it: ∞ is more than any number and NIL is no link, no sum is left out, and every round is made. G's vertices are
-- the nodes and its edges the usable links; w₁ is the kept weight and w₂' the scaled one. Of each algorithm the innermost
-- line stands first, as a definition stands above its use.
-- Assumes nothing.
use Rattle.std.specs.Prelude.{ℕ, ◌+◌, ◌-◌, Bool, true, false, cond, ◌&&◌, ltb, leb, eqb}
use Rattle.network.specs.Loops.{iter}
use Rattle.network.specs.Net.{Net}
use Rattle.network.specs.Problem.{Problem}

-- ---- the variables d and π, which have a value at every ⟨v, k⟩
-- a w₁-weight, or ∞
pub data Estimation : Type 0 where
  weight : ℕ → Estimation
  ∞ : Estimation

-- the paper keeps the node u before v. Several links may lead from u to v, so the link is kept for u
pub data Predecessor : Type 0 where
  link : ℕ → Predecessor
  NIL : Predecessor

pub record Variables : Type 0 where
  pub d : ℕ → ℕ → Estimation
  pub π : ℕ → ℕ → Predecessor

-- e at ⟨v, k⟩, and at every other pair what f has there
abbrev pub changed : {A : Type 0} → (ℕ → ℕ → A) → ℕ → ℕ → A → ℕ → ℕ → A
changed f v k e u j = cond (eqb u v && eqb j k) e (f u j)

-- d[v, k] := e
abbrev pub set_d : ℕ → ℕ → Estimation → Variables → Variables
set_d v k e t = record { d = changed t.d v k e; π = t.π }

-- π[v, k] := e
abbrev pub set_π : ℕ → ℕ → Predecessor → Variables → Variables
set_π v k e t = record { d = t.d; π = changed t.π v k e }

-- d + w
abbrev pub plus : Estimation → ℕ → Estimation
plus (weight n) w = weight (n + w)
plus ∞ w = ∞

-- d > e
abbrev pub greater : Estimation → Estimation → Bool
greater (weight n) (weight m) = ltb m n
greater (weight n) ∞ = false
greater ∞ (weight m) = true
greater ∞ ∞ = false

module _ (g : Net) (q : Problem) where
  -- ---- Initialize(G, s)
  abbrev pub line_2 : ℕ → ℕ → Variables → Variables
  line_2 v i = set_d v i ∞

  abbrev pub line_3 : ℕ → ℕ → Variables → Variables
  line_3 v i = set_π v i NIL

  -- each vertex v, each i from 0 to x
  unfoldable pub line_1 : Variables → Variables
  line_1 = iter (λ v. iter (λ i t. line_3 v i (line_2 v i t)) (q.x + 1)) g.nodes

  abbrev pub line_5 : ℕ → ℕ → Variables → Variables
  line_5 s i = set_d s i (weight 0)

  -- each i from 0 to x
  unfoldable pub line_4 : ℕ → Variables → Variables
  line_4 s = iter (line_5 s) (q.x + 1)

  abbrev pub initialize : ℕ → Variables → Variables
  initialize s t = line_4 s (line_1 t)

  -- ---- Relax(u, k, v), where link i leads from u to v
  module _ (k i : ℕ) where
    abbrev pub u : ℕ
    u = g.tail i

    abbrev pub v : ℕ
    v = g.head i

    -- line 6
    abbrev pub k' : ℕ
    k' = k + q.scaled_by i

    -- lines 8 and 9: d[u, k] + w₁(u, v)
    abbrev pub sum_at : Variables → Estimation
    sum_at t = plus (t.d u k) (q.kept i)

    abbrev pub line_9 : Variables → Variables
    line_9 t = set_d v k' (sum_at t) t

    abbrev pub line_10 : Variables → Variables
    line_10 = set_π v k' (link i)

    unfoldable pub line_8 : Variables → Variables
    line_8 t = let then : Variables = line_10 (line_9 t) in cond (greater (t.d v k') (sum_at t)) then t

    unfoldable pub line_7 : Variables → Variables
    line_7 t = let then : Variables = line_8 t in cond (leb k' q.x) then t

    abbrev pub relax : Variables → Variables
    relax t = line_7 t

  -- ---- EBF(G, s)
  unfoldable pub line_24 : ℕ → ℕ → Variables → Variables
  line_24 k i t = let then : Variables = relax k i t in cond (g.usable i) then t

  -- each edge, in table order
  unfoldable pub line_23 : ℕ → Variables → Variables
  line_23 k = iter (line_24 k) g.links

  -- k from 0 to x
  unfoldable pub line_22 : Variables → Variables
  line_22 = iter line_23 (q.x + 1)

  -- |V| − 1 rounds
  unfoldable pub line_21 : Variables → Variables
  line_21 = iter (λ _. line_22) (g.nodes - 1)

  abbrev pub line_20 : ℕ → Variables → Variables
  line_20 = initialize

  -- from whatever the variables hold before
  unfoldable pub ebf : ℕ → Variables → Variables
  ebf s t = line_21 (line_20 s t)
