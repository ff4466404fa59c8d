-- The cases of class tables hold: the calls answer them, and what they answer means what a case says.
-- Assumes nothing.
use mathlib.Core.Path.{◌≡◌, refl, subst}
use mathlib.Core.List.{List, [], ◌∷◌, map, head-eq_of_cons-eq, tail-eq_of_cons-eq}
use Rattle.network.specs.Lists.{All}
use Rattle.rules.specs.Classes.{CheckMeans, ClassMeans, check_answer, class_answer}
use Rattle.rules.proofs.Classes.{check_means, class_means}
use Rattle.cases.specs.ClassCases.{ClassCase, class_cases, ClassCaseHolds}

checks : map (λ (c : ClassCase). check_answer c.words) class_cases ≡ map (λ (c : ClassCase). c.check) class_cases
unfolding check_answer
checks = refl

answers : map (λ (c : ClassCase). class_answer c.words c.class) class_cases ≡ map (λ (c : ClassCase). c.answer) class_cases
unfolding class_answer
answers = refl

-- two equations of two lists each, as a statement of each element
each : (l : List ClassCase)
    → map (λ (c : ClassCase). check_answer c.words) l ≡ map (λ (c : ClassCase). c.check) l
    → map (λ (c : ClassCase). class_answer c.words c.class) l ≡ map (λ (c : ClassCase). c.answer) l
    → All ClassCaseHolds l
each [] e f = tt
each (c ∷ l) e f = (
  (
    subst (CheckMeans c.words) (head-eq_of_cons-eq e) (check_means c.words),
    subst (ClassMeans c.words c.class) (head-eq_of_cons-eq f) (class_means c.words c.class),
  ),
  each l (tail-eq_of_cons-eq e) (tail-eq_of_cons-eq f),
)

pub all_class_cases : All ClassCaseHolds class_cases
all_class_cases = each class_cases checks answers
