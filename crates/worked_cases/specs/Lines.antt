-- The lines of document 01's cases, in ASCII: of each case M and its number, the other numbers of its row, and behind an
-- equals sign the reply that document 01 gives. So the numbers of a case are in what is printed, and not its reply alone.
-- Assumes nothing.
use Rattle.std.specs.Prelude.{ℕ, List, [], ◌∷◌, ◌++◌}
use Rattle.rules.specs.Replies.{PathReply, answer_of, path_of}
use Rattle.text_format.specs.Decimal.{decimal}
use Rattle.text_format.specs.Fields.{field, fields}
use Rattle.answer_lines.specs.Answers.{routed_text}
use Rattle.cases.specs.declared.Row.{Row}
use Rattle.cases.specs.Document01.{Case, cases, ground_number, asked_numbers}
use Rattle.cases.specs.Replied.{replied_to}

-- M is byte 77, a space 32, an equals sign 61
unfoldable pub name_text : Row → List ℕ
unfolding decimal field fields
name_text r = (77 ∷ []) ++ decimal r.number ++ field (ground_number r.stands) ++ fields (asked_numbers r.asked) ++ 32 ∷ 61 ∷ []

-- the answer and the granted path of a reply
unfoldable pub reply_text : PathReply → List ℕ
unfolding routed_text answer_of
reply_text a = routed_text (answer_of a) (path_of a)

-- ---- with document 01's replies
unfoldable pub case_line : Case → List ℕ
unfolding name_text reply_text
case_line c = name_text c.row ++ reply_text c.reply

unfoldable pub lines_of : List Case → List ℕ
unfolding case_line
lines_of [] = []
lines_of (c ∷ cs) = case_line c ++ lines_of cs

-- the lines of all cases, one after another
unfoldable pub case_lines : List ℕ
unfolding cases lines_of
case_lines = lines_of cases

-- ---- with the replies of the calls' definitions
unfoldable pub row_line : Row → List ℕ
unfolding name_text reply_text
row_line r = name_text r ++ reply_text (replied_to r)

unfoldable pub row_lines : List Row → List ℕ
unfolding row_line
row_lines [] = []
row_lines (r ∷ rs) = row_line r ++ row_lines rs
