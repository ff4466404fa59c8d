-- Words copied to a circuit's length behind where they stood are the move that an admission makes.
-- Assumes nothing.
use Rattle.std.proofs.Common.{arith, ◌≡◌, ◌∙◌, ◌+◌, ◌≤◌, ℕ, List, length, get_or, set, zero, suc, length-set, sym}
use Rattle.std.proofs.lemmas.Grind.{common_steps, same_number_lists}
use Rattle.std.specs.List.{CopiedTo, SameBelow, SameFrom}
use Rattle.area.specs.Layout.{circuit_words}
use Rattle.area.specs.Moves.{opened}

-- by places: v is w with n words from place a on put a circuit after where they stood. The last of them may be stored ahead,
-- since it stands behind all that the others are read from
pub opened_copy : (w v : List ℕ) (a n : ℕ) → length v ≡ length w → a + n + circuit_words ≤ length w
    → CopiedTo w v a (a + circuit_words) n → SameBelow w v (a + circuit_words) → SameFrom w v (a + circuit_words + n)
    → v ≡ opened w a n
unfolding opened
opened_copy w v a zero long fits copied below from = same_number_lists v w long (λ k h. grind arith)
opened_copy w v a (suc n) long fits copied below from =
    let x : ℕ = get_or w (a + n) 0 in
    opened_copy (set w (a + n + circuit_words) x) v a n (long ∙ sym (length-set w (a + n + circuit_words) x))
    (rw length-set (omega arith))
    (λ k d low high. grind (arith, common_steps))
    (λ k d low. grind (arith, common_steps))
    (λ k d high. grind (arith, common_steps))
