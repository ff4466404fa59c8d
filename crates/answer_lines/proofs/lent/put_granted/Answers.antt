-- The path stands behind the three numbers.
use Rattle.std.proofs.Common.{[], ◌∷◌, arith}
use Rattle.text_format.specs.Fields.{fields}
use Rattle.text.proofs.Behind.{put_behind}
use Rattle.answer_lines.specs.Answers.{path_text}
use Rattle.answer_lines.proofs.lent.put_granted.Goals as goal

pub returns : goal.returns
returns c =
    let e =
    put_behind c.args.text.now c.put_fields-end.new.text c.put_path.new.text (fields (c.args.problem ∷ c.args.delay ∷ c.args.cost ∷ []))
    (path_text c.args.links c.args.path.now) c.args.at c.put_fields-end.result c.put_path.result
    (c.put_fields-end.ensures.end, c.put_fields-end.ensures.text) (c.put_path.ensures.end, c.put_path.ensures.text) in
    record { end = e.0; most = omega arith; text = e.1 }
