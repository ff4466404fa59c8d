-- The lines of the class program, as bytes: one space between fields, and a newline (byte 10) ends each line.
-- Assumes nothing.
use Rattle.std.specs.Prelude.{ℕ, zero, suc, ◌-◌, List, [], ◌∷◌, ◌++◌}
use Rattle.network.specs.Limits.{path_words, work_words}
use Rattle.network.specs.declared.Request.{Request}
use Rattle.network.specs.Reduce.{problem_number}
use Rattle.area.specs.Refusals.{refuses, grants, Reply}
use Rattle.network.specs.declared.Terms.{Terms}
use Rattle.rules.specs.ClassTable.{rows_in, request_between}
use Rattle.rules.specs.Classes.{class_answer}
use Rattle.rules.specs.Replies.{PathReply}
use Rattle.rules.specs.Calls.{quote}
use Rattle.text_format.specs.Decimal.{decimal}
use Rattle.text_format.specs.Fields.{fields}

-- the class, and these numbers
unfoldable pub line : ℕ → List ℕ → List ℕ
unfolding decimal fields
line k ns = decimal k ++ fields ns ++ 10 ∷ []

-- class, problem, delay, cost, links; refused: class, 0, number
unfoldable pub reply_line : ℕ → PathReply → List ℕ
unfolding line
reply_line k (refuses number) = line k (0 ∷ number ∷ [])
reply_line k (grants g) = line k (problem_number g.problem ∷ g.delay ∷ g.cost ∷ g.path)

-- what a class asks for, from node 0 to n - 1
unfoldable pub request_of : ℕ → Terms → Request
request_of n s = request_between 0 (n - 1) s

-- the line of class k with the row s, quoted on an area of n nodes
unfoldable pub quote_line : List ℕ → ℕ → ℕ → Terms → List ℕ
unfolding reply_line quote request_of
quote_line area n k s = reply_line k (quote area work_words path_words (request_of n s))

-- the line of class k by what the class call answers
unfoldable pub answered_line : List ℕ → ℕ → ℕ → Reply Terms → List ℕ
unfolding reply_line quote_line
answered_line area n k (refuses number) = reply_line k (refuses number)
answered_line area n k (grants s) = quote_line area n k s

-- the line of class k of a class table
unfoldable pub class_line : List ℕ → List ℕ → ℕ → ℕ → List ℕ
unfolding answered_line class_answer
class_line rows area n k = answered_line area n k (class_answer rows k)

-- those of c classes from k on
unfoldable pub lines_from : List ℕ → List ℕ → ℕ → ℕ → ℕ → List ℕ
unfolding class_line
lines_from rows area n k zero = []
lines_from rows area n k (suc c) = class_line rows area n k ++ lines_from rows area n (suc k) c

-- those of all its rows
unfoldable pub lines : List ℕ → List ℕ → ℕ → List ℕ
unfolding lines_from
lines rows area n = lines_from rows area n 0 (rows_in rows)
