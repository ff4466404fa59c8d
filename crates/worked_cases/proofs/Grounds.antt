-- An area that is loaded with the links of a case's area reads as that one; M8's admission comes after its load.
-- Assumes nothing.
use Prim.Native.Nat.{ℕ, ◌≤◌}
use mathlib.Core.Path.{◌≡◌}
use mathlib.Core.Logic.{◌⊎◌, ⊎_elim}
use mathlib.Core.List.{List}
use lib.ListN.{length}
use Rattle.area.specs.Layout.{area_words}
use Rattle.area.specs.Load.{area_loaded}
use Rattle.cases.specs.declared.Ground.{Ground}
use Rattle.cases.specs.declared.Ground.TheVariants.{OnA, OnNone, OnB}
use Rattle.cases.specs.Document01.{unheld}
use Rattle.cases.proofs.Areas.{Like, loaded_a, loaded_none, loaded_b}
use Rattle.worked_cases.specs.Grounds.{links_for}

pub loaded_for : (w : List ℕ) → area_words ≤ length w → (g : Ground) → (g ≡ OnA) ⊎ ((g ≡ OnNone) ⊎ (g ≡ OnB))
    → Like (area_loaded w (unheld (links_for g))) g
loaded_for w long g =
    ⊎_elim (λ e. rw e (loaded_a w long)) (⊎_elim (λ e. rw e (loaded_none w long)) (λ e. rw e (loaded_b w long)))
