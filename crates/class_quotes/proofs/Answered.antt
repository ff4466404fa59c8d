-- A class's line is the class and the text of what it is answered, by the code's answer and the path buffer after it.
-- Assumes nothing.
use Rattle.std.proofs.Common.{◌≡◌, ℕ, List, [], ◌∷◌, ◌++◌, refl, ap, ◌∙◌, append_assoc}
use Rattle.std.proofs.Math.Seq.{take-append_seam}
use Rattle.area.specs.Refusals.{Reply, refuses, grants}
use Rattle.rules.specs.Replies.{PathReply, answer_of, path_after}
use Rattle.network.specs.declared.Grant.{Grant}
use Rattle.network.specs.Reduce.{problem_number}
use Rattle.text_format.specs.Decimal.{decimal}
use Rattle.text_format.specs.Fields.{fields}
use Rattle.text_format.proofs.Puts.{fields_append}
use Rattle.answer_lines.specs.Answers.{line_text, grant_text, routed_text}
use Rattle.class_format.specs.Lines.{line, reply_line}
use Rattle.class_format.proofs.Quoted.{refuses_line, grants_line}

line_is : (k : ℕ) (ns : List ℕ) → line k ns ≡ decimal k ++ line_text ns
unfolding line line_text
line_is k ns = append_assoc (decimal k) (fields ns) (10 ∷ [])

pub refused_line : (k j : ℕ) (buffer : List ℕ) → line k (0 ∷ j ∷ []) ≡ decimal k ++ routed_text (refuses j) buffer
unfolding routed_text
refused_line k j buffer = line_is k (0 ∷ j ∷ [])

-- a path's links behind the three numbers
numbers_then : (which d c : ℕ) (p : List ℕ) → line_text (which ∷ d ∷ c ∷ p) ≡ fields (which ∷ d ∷ c ∷ []) ++ line_text p
unfolding line_text
numbers_then which d c p =
    ap (λ (bytes : List ℕ). bytes ++ 10 ∷ []) (fields_append (which ∷ d ∷ c ∷ []) p)
    ∙ append_assoc (fields (which ∷ d ∷ c ∷ [])) (fields p) (10 ∷ [])

pub reply_line_is : (k : ℕ) (said : PathReply) (buffer : List ℕ)
    → reply_line k said ≡ decimal k ++ routed_text (answer_of said) (path_after said buffer)
unfolding answer_of path_after routed_text grant_text
reply_line_is k (refuses j) buffer = refuses_line k j ∙ refused_line k j buffer
reply_line_is k (grants g) buffer = grants_line k g ∙ line_is k _ ∙ rw (numbers_then (problem_number g.problem) g.delay g.cost g.path, take-append_seam) refl

-- by the answer a and the path buffer after
pub routed_line : (k : ℕ) (said : PathReply) (buffer after : List ℕ) (a : Reply Grant) → a ≡ answer_of said → after ≡ path_after said buffer
    → reply_line k said ≡ decimal k ++ routed_text a after
routed_line k said buffer after a e written = rw (e, written) (reply_line_is k said buffer)
