-- Which word of a link table is which field of which link: the first five words are those of link 0 in document 01's
-- order, and the links behind them follow by their numbers.
-- Assumes nothing.
use mathlib.Core.Path.{◌≡◌, refl, subst}
use mathlib.Core.Bool.{Bool}
use mathlib.Core.List.{List, ◌∷◌}
use Prim.Native.Nat.{ℕ, suc, ◌+◌, ◌*◌}
use native.Mathlib.Omega.{arith}
use lib.ListN.{get_or}
use Rattle.network.specs.Limits.{link_words}
use Rattle.network.specs.Words.{field, net_of}

-- a network by words and columns has each link's ends from the words, and its delay and its cost each from its own column
pub columns_read : (n m : ℕ) (words : List ℕ) (flags : List Bool) (delays costs : List ℕ) (i : ℕ)
    → let g = net_of n m words flags delays costs in
    ((g.tail i ≡ field words i 0) × (g.head i ≡ field words i 1)) × ((g.delay i ≡ get_or delays i 0) × (g.cost i ≡ get_or costs i 0))
unfolding net_of
columns_read n m words flags delays costs i = ((refl, refl), (refl, refl))

-- link i goes from a to b with this delay, cost and capacity
pub record LinkIs (words : List ℕ) (i a b delay cost capacity : ℕ) : Type 0 where
  pub from : field words i 0 ≡ a
  pub to : field words i 1 ≡ b
  pub its_delay : field words i 2 ≡ delay
  pub its_cost : field words i 3 ≡ cost
  pub its_capacity : field words i 4 ≡ capacity

module _ (a b delay cost capacity : ℕ) (rest : List ℕ) where
  pub first_link_lem : LinkIs (a ∷ b ∷ delay ∷ cost ∷ capacity ∷ rest) 0 a b delay cost capacity
  first_link_lem = record { from = refl; to = refl; its_delay = refl; its_cost = refl; its_capacity = refl }

  pub next_link : (i j : ℕ) → field (a ∷ b ∷ delay ∷ cost ∷ capacity ∷ rest) (i + 1) j ≡ field rest i j
  next_link i j =
      let further : suc (suc (suc (suc (suc (link_words * i + j))))) ≡ link_words * (i + 1) + j = omega arith in
      subst (λ k. get_or (a ∷ b ∷ delay ∷ cost ∷ capacity ∷ rest) k 0 ≡ field rest i j) further refl
