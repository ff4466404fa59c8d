-- The lines of the cases with the replies of the calls' definitions are those with document 01's.
-- Assumes nothing.
use Prim.Native.Nat.{ℕ, ◌+◌, ◌<◌}
use native.Mathlib.Numerals.{add-one}
use mathlib.Core.Path.{◌≡◌, refl, sym, ap, ap₂, ◌∙◌}
use mathlib.Core.List.{List, [], ◌∷◌, ◌++◌, map, append_assoc, append-nil, head-eq_of_cons-eq, tail-eq_of_cons-eq}
use lib.ListN.{length, get_or, take, drop}
use lib.Seq.{take-suc, take-append_seam, take-length}
use Rattle.network.specs.declared.Grant.{Grant as Numbers}
use Rattle.network.specs.Reduce.{problem_number}
use Rattle.area.specs.Refusals.{refuses, grants, Reply}
use Rattle.rules.specs.Replies.{PathReply, answer_of, path_after}
use Rattle.text_format.specs.Fields.{fields}
use Rattle.answer_lines.specs.Answers.{routed_text, grant_text, line_text}
use Rattle.cases.specs.declared.Row.{Row}
use Rattle.cases.specs.Document01.{Case, cases, rows}
use Rattle.cases.specs.Replied.{replied, replied_to}
use Rattle.cases.proofs.Worked.{replies}
use Rattle.cases.proofs.Areas.{Like, like_replied}
use Rattle.worked_cases.specs.Lines.{name_text, reply_text, lines_of, case_lines, case_line, row_line, row_lines}

-- of the path buffer after a call the granted path alone is put, whatever the buffer held before
pub reply_text_lem : (a : PathReply) (l : List ℕ) → routed_text (answer_of a) (path_after a l) ≡ reply_text a
unfolding reply_text routed_text answer_of grant_text path_after
reply_text_lem (refuses k) l = refl
reply_text_lem (grants g) l =
    ap (λ (p : List ℕ). fields (problem_number g.problem ∷ g.delay ∷ g.cost ∷ []) ++ line_text p)
    (take-append_seam g.path (drop (length g.path) l) ∙ sym (take-length g.path))

-- what a row's call answered, on an area that reads as the row's, stands behind the row's name in its line
pub row_put : (r : Row) (w : List ℕ) → Like w r.stands → (said : Reply Numbers) (l p : List ℕ) → said ≡ answer_of (replied w r.asked)
    → p ≡ path_after (replied w r.asked) l
    → (t t' t'' : List ℕ) → t' ≡ t ++ name_text r → t'' ≡ t' ++ routed_text said p → t'' ≡ t ++ row_line r
unfolding row_line
row_put r w like said l p answer path t t' t'' name put =
    let stated : routed_text said p ≡ reply_text (replied_to r) =
    ap₂ routed_text answer path ∙ reply_text_lem (replied w r.asked) l ∙ ap reply_text (like_replied w r.stands like r.asked) in
    put ∙ ap₂ ◌++◌ name stated ∙ append_assoc t (name_text r) (reply_text (replied_to r))

-- ---- one row more
pub no_lines : row_lines [] ≡ []
unfolding row_lines
no_lines = refl

more_lines : (r : Row) (rs : List Row) → row_lines (r ∷ rs) ≡ row_line r ++ row_lines rs
unfolding row_lines
more_lines r rs = refl

lines_append : (rs ss : List Row) → row_lines (rs ++ ss) ≡ row_lines rs ++ row_lines ss
lines_append [] ss = simp no_lines
lines_append (r ∷ rs) ss = simp (more_lines, lines_append rs ss, append_assoc)

pub lines_turn : (rs : List Row) (i : ℕ) (r : Row) → i < length rs → (t t' t'' : List ℕ) → t' ≡ t ++ row_lines (take i rs)
    → t'' ≡ t' ++ row_line (get_or rs i r)
    → t'' ≡ t ++ row_lines (take (i + 1) rs)
lines_turn rs i r low t t' t'' before turn =
    turn ∙ rw (before, add-one, take-suc rs i r low, lines_append) (simp (more_lines, no_lines, append-nil, append_assoc))

-- ---- all of them
same_lines : (cs : List Case) → map (λ (c : Case). replied_to c.row) cs ≡ map (λ (c : Case). c.reply) cs
    → row_lines (map (λ (c : Case). c.row) cs) ≡ lines_of cs
unfolding row_lines lines_of row_line case_line
same_lines [] e = refl
same_lines (c ∷ cs) e = ap₂ (λ (a : PathReply) (l : List ℕ). (name_text c.row ++ reply_text a) ++ l) (head-eq_of_cons-eq e) (same_lines cs (tail-eq_of_cons-eq e))

pub all_lines : row_lines rows ≡ case_lines
unfolding case_lines
all_lines = same_lines cases replies

-- a list equal to the definition's rows has document 01's lines
pub table_lines : (rs : List Row) → rs ≡ rows → row_lines rs ≡ case_lines
table_lines rs e = ap row_lines e ∙ all_lines
