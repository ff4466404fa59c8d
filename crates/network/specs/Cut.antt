-- A walk with its loops cut: of the links that leave a node the walk's last one counts, and from the start on
-- these links are followed. The nodes met so far are a node set.
-- Assumes nothing.
use Rattle.std.specs.Prelude.{ℕ, zero, suc, ◌-◌, Bool, cond, ◌||◌, List, [], ◌∷◌, eqb, leb, get_or, set, replicate}
use Rattle.network.specs.Limits.{most_nodes}
use Rattle.network.specs.Net.{Net}
use Rattle.network.specs.NodeSet.{member, inserted}

-- the nodes that were left, and at each of them the link by which it was left last
pub record Notes : Type 0 where
  pub left : ℕ
  pub next : List ℕ

-- a later link of the walk left v already
abbrev pub left_already : ℕ → ℕ → Bool
left_already left v = member left v

-- link i, which leaves node v, is noted unless a later link of the walk left v already
unfoldable pub noted : ℕ → ℕ → ℕ → List ℕ → List ℕ
noted left v i next = let more : List ℕ = set next v i in cond (left_already left v) next more

abbrev pub note_at : ℕ → ℕ → Notes → Notes
note_at v i s = record { left = inserted s.left v; next = noted s.left v i s.next }

abbrev pub note_link : Net → ℕ → Notes → Notes
note_link g i s = note_at (g.tail i) i s

-- before any link is noted
abbrev pub no_notes : Notes
no_notes = record { left = 0; next = replicate most_nodes 0 }

-- the notes of a walk, its last link first
abbrev pub notes : Net → List ℕ → Notes
notes g [] = no_notes
notes g (i ∷ p) = note_link g i (notes g p)

-- the links that lead from v to t by the notes, f of them at most
unfoldable pub follow : Net → List ℕ → ℕ → ℕ → ℕ → List ℕ
follow g next t zero v = []
follow g next t (suc f) v =
    let i : ℕ = get_or next v 0 in
    let on : List ℕ = i ∷ follow g next t f (g.head i) in
    cond (eqb v t || leb g.links i) [] on

unfoldable pub cut : Net → ℕ → ℕ → List ℕ → List ℕ
unfolding follow
cut g s t p = follow g (notes g p).next t (g.nodes - 1) s
