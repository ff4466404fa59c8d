-- Three of document 01's lines for net A with the replies that they tell: a longer path, a shorter one and a refusal.
-- Assumes nothing.
use Rattle.std.specs.Prelude.{ℕ, List, [], ◌∷◌}
use Rattle.network.specs.declared.answer.Reduction.TheVariants.{One}
use Rattle.area.specs.Refusals.{refuses}
use Rattle.rules.specs.Replies.{PathReply, granting}
use Rattle.class_format.specs.NetA.{class_zero, class_three, class_five}

-- a class, its reply and its line
pub record Sample : Type 0 where
  pub class : ℕ
  pub reply : PathReply
  pub bytes : List ℕ

abbrev pub samples : List Sample
samples =
    record { class = 0; reply = granting One 6 15 (0 ∷ 1 ∷ 2 ∷ []); bytes = class_zero }
    ∷ record { class = 3; reply = granting One 9 1 (3 ∷ []); bytes = class_three }
    ∷ record { class = 5; reply = refuses 9; bytes = class_five }
    ∷ []
