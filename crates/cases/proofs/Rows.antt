-- The cases one by one: the call of each, by its definition, replies as document 01 does.
-- Assumes nothing.
use Prim.Native.Nat.{ℕ, zero, suc, ◌<◌}
use mathlib.Core.Path.{◌≡◌, refl, sym, ap, ◌∙◌}
use mathlib.Core.List.{List, [], ◌∷◌, map}
use native.Mathlib.Omega.{arith}
use lib.ListN.{length, get_or}
use Rattle.rules.specs.Replies.{PathReply}
use Rattle.cases.specs.Document01.{Case, cases, no_case, case_at}
use Rattle.cases.specs.Replied.{replied_to}
use Rattle.cases.proofs.Worked.{replies}

-- what a function gives for an element, whatever stands past the end
map_at : {A B : Type 0} (f : A → B) (l : List A) (i : ℕ) (a : A) (b : B) → i < length l → get_or (map f l) i b ≡ f (get_or l i a)
map_at f [] i a b low = absurd (omega arith)
map_at f (u ∷ l) zero a b low = refl
map_at f (u ∷ l) (suc i) a b low = map_at f l i a b (omega arith)

pub many : length cases ≡ 15
unfolding cases
many = refl

module _ (i : ℕ) (low : i < 15) where
  -- document 01's reply is what the call's definition replies on the case's area
  pub replied_at : replied_to (case_at i).row ≡ (case_at i).reply
  unfolding case_at
  replied_at =
      sym (map_at (λ (c : Case). replied_to c.row) cases i no_case no_case.reply (omega (arith, many)))
      ∙ ap (λ (l : List PathReply). get_or l i no_case.reply) replies
      ∙ map_at (λ (c : Case). c.reply) cases i no_case no_case.reply (omega (arith, many))
