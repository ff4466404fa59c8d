-- What the calls' definitions reply to a row and what they leave, with enough work memory and path buffer. The program that
-- makes the calls is held to this; that the replies are document 01's is proofs/Worked.antt.
-- Assumes nothing.
use Rattle.std.specs.Prelude.{List, ℕ}
use Rattle.network.specs.Limits.{path_words, work_words}
use Rattle.rules.specs.Replies.{PathReply}
use Rattle.rules.specs.Calls.{quote, admission, booked}
use Rattle.cases.specs.declared.Asked.{Asked}
use Rattle.cases.specs.declared.Asked.TheVariants.{Quote, Admission}
use Rattle.cases.specs.declared.Row.{Row}
use Rattle.cases.specs.Document01.{area_in}

-- on an area
abbrev pub replied : List ℕ → Asked → PathReply
replied w (Quote r) = quote w work_words path_words r
replied w (Admission c r) = admission w work_words path_words c r

-- on the area that a row stands on
abbrev pub replied_to : Row → PathReply
replied_to r = replied (area_in r.stands) r.asked

-- the area after the call
abbrev pub left_by : List ℕ → Asked → List ℕ
left_by w (Quote r) = w
left_by w (Admission c r) = booked w c r.terms.units (admission w work_words path_words c r)
