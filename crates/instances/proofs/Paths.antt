-- Paths and distances: what is one, and what is none.
-- Assumes nothing.
use Prim.Native.Nat.{ℕ, ◌≤◌}
use mathlib.Core.Path.{◌≡◌, refl, sym, ◌∙◌}
use mathlib.Core.Bool.{false, true≢false}
use mathlib.Core.List.{List, [], ◌∷◌}
use native.Mathlib.Omega.{arith}
use lib.ListN.{length, get_or}
use Rattle.network.specs.Net.{Net, Walk, IsPath, is_pathb}
use Rattle.network.specs.Problem.{NoPath, Distance}
use Rattle.network.specs.Words.{net_of}
use Rattle.network.specs.NodeSet.{member, inserted}
use Rattle.network.specs.Cut.{no_notes, note_at, noted, follow, cut}
use Rattle.network.proofs.Paths.{walk_of, path_of_lem, path_test}
use Rattle.cases.specs.Document01.{three}
use Rattle.instances.specs.Nets.{net_a, net_b, shut_a, straight}

-- a list whose test fails is no path
pub no_path : (g : Net) (s t : ℕ) (p : List ℕ) → is_pathb g s t p ≡ false → IsPath g s t p → ⊥
no_path g s t p e h = true≢false (sym (path_test g s t p h) ∙ e)

-- ---- net A from 0 to 3: by three links, and by one
pub three_path : IsPath net_a 0 3 three
unfolding net_of
three_path = path_of_lem net_a 0 3 three refl

pub straight_path : IsPath net_a 0 3 straight
unfolding net_of
straight_path = path_of_lem net_a 0 3 straight refl

-- no link at all is no path, not even from a node to itself
pub none_no_path : (v : ℕ) → IsPath net_a v v [] → ⊥
none_no_path v h = h.some

-- links 0 and 2 do not follow one another
pub gap_no_path : IsPath net_a 0 3 (0 ∷ 2 ∷ []) → ⊥
unfolding net_of
gap_no_path = no_path net_a 0 3 (0 ∷ 2 ∷ []) refl

-- link 4 is not in the table
pub unlisted_no_path : (t : ℕ) → IsPath net_a 0 t (4 ∷ []) → ⊥
unfolding net_of
unlisted_no_path t = no_path net_a 0 t (4 ∷ []) refl

-- ---- net B: a walk from 0 to 3 that passes node 1 twice is no path
abbrev pub round : List ℕ
round = 3 ∷ 0 ∷ 1 ∷ 2 ∷ []

pub round_walk : Walk net_b 0 3 round
unfolding net_of
round_walk = walk_of net_b 0 3 round refl

pub round_no_path : IsPath net_b 0 3 round → ⊥
unfolding net_of
round_no_path = no_path net_b 0 3 round refl

-- with the loop cut it is one: of the links that leave node 1 the later one counts
pub round_cut : cut net_b 0 3 round ≡ 3 ∷ 2 ∷ []
unfolding net_of cut follow noted member inserted
round_cut = refl

pub later_counts : get_or (note_at 1 0 (note_at 1 2 no_notes)).next 1 0 ≡ 2
unfolding noted member inserted
later_counts = refl

-- ---- the distance
-- is 1 on net A, by link 3
pub distance_one : Distance net_a 0 3 1
distance_one = record { reached = (straight, straight_path, refl); fewest = fewest }
  where
    fewest : (p : List ℕ) → IsPath net_a 0 3 p → 1 ≤ length p
    fewest [] h = absurd h.some
    fewest (i ∷ p) h = omega arith

-- and not 3, though a path of three links exists
pub distance_not_three : Distance net_a 0 3 3 → ⊥
distance_not_three h = let far = h.fewest straight straight_path in omega (arith, far)

-- where no link is usable, there is no path and no distance
pub shut_no_path : NoPath shut_a 0 3
unfolding net_of
shut_no_path [] h = h.some
shut_no_path (i ∷ p) h = true≢false (sym h.walk.1)

pub shut_no_distance : (k : ℕ) → Distance shut_a 0 3 k → ⊥
shut_no_distance k h = shut_no_path h.reached.0 h.reached.1
