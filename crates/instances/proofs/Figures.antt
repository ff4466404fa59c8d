-- Document 01's figures of M2, M3 and M11 and its cases, and the cases of hold times and their figures, each taken from their
-- statement alone.
-- Assumes nothing.
use Prim.Native.Nat.{◌+◌, ◌*◌}
use mathlib.Core.Path.{◌≡◌}
use mathlib.Core.List.{[], ◌∷◌}
use lib.ListN.{length}
use Rattle.network.specs.Lists.{All}
use Rattle.network.specs.Net.{sum}
use Rattle.network.specs.Scale.{Overqualified}
use Rattle.network.specs.Problem.{Distance}
use Rattle.network.specs.Reduce.{asking}
use Rattle.network.specs.declared.answer.Reduction.TheVariants.{One, Two}
use Rattle.area.specs.Station.{table_in}
use Rattle.area.specs.Books.{path_delay}
use Rattle.area.specs.Refusals.{refuses}
use Rattle.rules.specs.Replies.{granting}
use Rattle.rules.specs.Meaning.{net_for, Quoted, Admitted}
use Rattle.cases.specs.Document01.{none_held, net_a, net_a4, net_b, bare, m2, m3, m11, three, area_in, cases, CaseHolds, Margins}
use Rattle.cases.specs.HoldTimes.{inner_held, all_held, net_h, net_h9, hold_cases, HoldCaseHolds, HoldFigures}

module _ (m : Margins) where
  -- M2: 15·6 + 3·20 = 150 is over 7·20 = 140
  pub m2_figures : Distance (net_for net_a m2) 0 3 1
      × (sum (net_for net_a m2).cost three ≡ 15)
      × (sum (net_for net_a m2).cost three * 6 + length three * 20 ≡ 150)
      × ((6 + 1) * 20 ≡ 140)
      × (Overqualified 6 20 3 (sum (net_for net_a m2).cost three) → ⊥)
  m2_figures = (m.m2_sides.distance, m.m2_sides.cost, m.m2_sides.left_side, m.m2_sides.right_side, m.m2_over)

  -- M3: the condition is met with equality, 180 = 180
  pub m3_figures : Distance (net_for net_a m3) 0 3 1
      × (sum (net_for net_a m3).cost three ≡ 15)
      × (sum (net_for net_a m3).cost three * 8 + length three * 20 ≡ 180)
      × ((8 + 1) * 20 ≡ 180)
      × Overqualified 8 20 3 (sum (net_for net_a m3).cost three)
  m3_figures = (m.m3_sides.distance, m.m3_sides.cost, m.m3_sides.left_side, m.m3_sides.right_side, m.m3_met)

  -- M11: x = 4 × 2 = 8
  pub m11_figures : Distance (net_for net_b m11) 0 3 2 × (4 * 2 ≡ 8)
  m11_figures = (m.m11_distance, m.m11_x)

-- the statement over the list, read at M1, M5, M7, M8, M9, M10 and M11
module _ (h : All CaseHolds cases) where
  pub m1 : Quoted net_a 16384 31 (asking 0 3 1 8 20 5) (refuses 10)
  unfolding cases area_in
  m1 = h.0

  pub m5 : Quoted net_a 16384 31 (asking 0 3 1 8 14 8) (refuses 10)
  unfolding cases area_in
  m5 = h.1.1.1.1.0

  pub m7 : Quoted net_a 16384 31 (asking 0 3 10 8 20 8) (granting One 6 15 three) × Quoted net_a 16384 31 (asking 0 3 11 8 20 8) (refuses 9)
  unfolding cases area_in
  m7 = (h.1.1.1.1.1.1.0, h.1.1.1.1.1.1.1.0)

  pub m8 : Admitted net_a 16384 31 1 (asking 0 3 4 8 20 8) (granting One 6 15 three)
      × Quoted net_a4 16384 31 (asking 0 3 6 8 20 8) (granting One 6 15 three)
      × Quoted net_a4 16384 31 (asking 0 3 7 8 20 8) (refuses 10)
      × Quoted net_a4 16384 31 (asking 0 3 7 9 20 8) (granting One 9 1 (3 ∷ []))
  unfolding cases area_in
  m8 = let l = h.1.1.1.1.1.1.1.1 in (l.0, l.1.0, l.1.1.0, l.1.1.1.0)

  pub m9_to_m11 : Quoted net_a 16384 31 (asking 0 0 1 8 20 8) (refuses 8)
      × Quoted bare 16384 31 (asking 0 3 1 8 20 8) (refuses 9)
      × Quoted net_b 16384 31 (asking 0 3 1 2 8 4) (granting One 2 2 (3 ∷ 2 ∷ []))
  unfolding cases area_in
  m9_to_m11 = let l = h.1.1.1.1.1.1.1.1.1.1.1.1 in (l.0, l.1.0, l.1.1.0)

-- the cases of hold times, read at H1, at H2 where s and t hold the most, at H3 and at H9
module _ (h : All HoldCaseHolds hold_cases) where
  pub h1 : Quoted (net_h none_held) 16384 31 (asking 0 3 1 4 20 8) (granting One 4 10 (0 ∷ 1 ∷ []))
      × Quoted (net_h inner_held) 16384 31 (asking 0 3 1 4 20 8) (refuses 10)
  unfolding hold_cases
  h1 = (h.0, h.1.0)

  pub h2 : Quoted (net_h all_held) 16384 31 (asking 0 3 1 10 20 8) (granting One 6 9 (2 ∷ 3 ∷ []))
      × Quoted (net_h all_held) 16384 31 (asking 0 1 1 2 20 8) (granting One 2 5 (0 ∷ []))
  unfolding hold_cases
  h2 = (h.1.1.1.1.0, h.1.1.1.1.1.0)

  pub h3 : Quoted (net_h none_held) 16384 31 (asking 0 3 1 8 10 1) (granting One 4 10 (0 ∷ 1 ∷ []))
      × Quoted (net_h inner_held) 16384 31 (asking 0 3 1 8 10 1) (granting Two 6 9 (2 ∷ 3 ∷ []))
  unfolding hold_cases
  h3 = let l = h.1.1.1.1.1.1.1.1.1 in (l.0, l.1.0)

  pub h9 : Admitted (net_h inner_held) 16384 31 1 (asking 0 3 10 10 20 8) (granting One 6 9 (2 ∷ 3 ∷ []))
      × Quoted net_h9 16384 31 (asking 0 3 1 10 20 8) (granting One 9 10 (0 ∷ 1 ∷ []))
      × Quoted net_h9 16384 31 (asking 0 3 1 8 20 8) (refuses 10)
  unfolding hold_cases
  h9 = let l = h.1.1.1.1.1.1.1.1.1.1.1.1.1.1.1.1.1.1.1.1.1.1 in (l.0, l.1.0, l.1.1.0)

-- the delays of the two paths of net H without hold times, 2 + 2 and 3 + 2, and with those of nodes 1 and 2, 5 and 1 more
module _ (f : HoldFigures) where
  pub path_figures : (path_delay (table_in (net_h none_held)) (0 ∷ 1 ∷ []) ≡ 4)
      × (path_delay (table_in (net_h none_held)) (2 ∷ 3 ∷ []) ≡ 5)
      × (path_delay (table_in (net_h inner_held)) (0 ∷ 1 ∷ []) ≡ 9)
      × (path_delay (table_in (net_h inner_held)) (2 ∷ 3 ∷ []) ≡ 6)
  path_figures = (f.unheld_1, f.unheld_2, f.held_1, f.held_2)

  -- H7: 6·16 + 2·6 = 108 is over 17·6 = 102, and 6·16 + 2·7 = 110 is not over 17·7 = 119
  pub h7_figures : (Overqualified 16 6 2 (sum (net_for (net_h inner_held) (asking 0 3 1 6 9 8)).delay (2 ∷ 3 ∷ [])) → ⊥)
      × Overqualified 16 7 2 (sum (net_for (net_h inner_held) (asking 0 3 1 7 9 8)).delay (2 ∷ 3 ∷ []))
  h7_figures = (f.h7_missed, f.h7_met)
