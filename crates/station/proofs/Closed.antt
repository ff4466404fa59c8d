-- Words copied to a circuit's length before where they stood are the move that a release makes.
-- Assumes nothing.
use Rattle.std.proofs.Common.{arith, ◌≡◌, ◌∙◌, ◌+◌, ◌≤◌, ℕ, List, length, get_or, set, zero, suc, length-set, sym}
use Rattle.std.proofs.lemmas.Grind.{common_steps, same_number_lists}
use Rattle.std.specs.List.{CopiedTo, SameBelow, SameFrom}
use Rattle.area.specs.Layout.{circuit_words}
use Rattle.area.specs.Moves.{closed}

-- by places: v is w with n words from place a on overwritten by those that stood a circuit after them. The first of them may
-- be stored ahead, since it stands before all that the others are read from
pub closed_copy : (w v : List ℕ) (a n : ℕ) → length v ≡ length w → a + n + circuit_words ≤ length w → CopiedTo w v (a + circuit_words) a n → SameBelow w v a → SameFrom w v (a + n)
    → v ≡ closed w a n
unfolding closed
closed_copy w v a zero long fits copied below from = same_number_lists v w long (λ k h. grind arith)
closed_copy w v a (suc n) long fits copied below from =
    let x : ℕ = get_or w (a + circuit_words) 0 in
    closed_copy (set w a x) v (suc a) n (long ∙ sym (length-set w a x)) (rw length-set (omega arith))
    (λ k d low high. grind (arith, common_steps))
    (λ k d low. grind (arith, common_steps))
    (λ k d high. grind (arith, common_steps))
