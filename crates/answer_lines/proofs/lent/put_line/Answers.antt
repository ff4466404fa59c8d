-- The newline stands behind the fields.
use Rattle.std.proofs.Common.{[], ◌∷◌}
use Rattle.text_format.specs.Fields.{fields}
use Rattle.text.proofs.Behind.{put_behind}
use Rattle.answer_lines.specs.Answers.{line_text}
use Rattle.answer_lines.proofs.lent.put_line.Goals as goal

pub returns-clause-text : goal.returns-clause-text
unfolding line_text
returns-clause-text c =
    (put_behind c.args.text.now c.put_fields-end.new.text c.put.new.text (fields c.args.numbers.now) (10 ∷ []) c.args.at c.put_fields-end.result c.put.result
    (c.put_fields-end.ensures.end, c.put_fields-end.ensures.text) (c.put.ensures.end, c.put.ensures.text)).1
