-- A circuit's words where its path was put word by word.
-- Assumes nothing.
use Rattle.std.proofs.Common.{arith, refl, sym, subst, ◌≡◌, ◌∙◌, ◌+◌, ◌-◌, ◌≤◌, ℕ, List, length, set, length-set, take, drop}
use lib.ListN.{replicate}
use borrow.Rule.Slice.PartMut.{put_mid}
use Rattle.std.proofs.lemmas.List.Edits.{sets}
use Rattle.network.specs.Limits.{most_path_links}
use Rattle.area.specs.Layout.{circuit_words}
use Rattle.area.specs.Station.{Circuit}
use Rattle.area.specs.Moves.{words_of}
use Rattle.area.proofs.Stores.{put_sets, with_path, circuit_put}

-- its number, units and link count, its path behind them, and as many zeros as there are path words left
pub circuit_stored : (w : List ℕ) (c : Circuit) (stored left : List ℕ) (at m : ℕ)
    → stored ≡ sets (set (set (set w at c.number) (at + 1) c.units) (at + 2) (length c.path)) (at + 3) c.path
    → m ≡ most_path_links - length c.path
    → left ≡ replicate (length (take m (drop (at + 3 + length c.path) stored))) 0
    → length c.path ≤ most_path_links → at + circuit_words ≤ length w
    → put_mid (at + 3 + length c.path) m stored left ≡ sets w at (words_of c)
circuit_stored w c stored left at m is rest zeros short fits =
    let first : List ℕ = set (set (set w at c.number) (at + 1) c.units) (at + 2) (length c.path) in
    let same : stored ≡ with_path w c at (length c.path) c.path =
    is ∙ sym (put_sets first c.path c.path (at + 3) (length c.path) refl refl (simp length-set (omega arith))) in
    rw same
    (circuit_put w c c.path left at (length c.path) m refl refl rest
    (subst (λ (words : List ℕ). left ≡ replicate (length (take m (drop (at + 3 + length c.path) words))) 0) same zeros) short fits)
