-- A refused class has the text of its refusal, and a row that of its quote.
use Rattle.std.proofs.Common.{◌≡◌, ◌+◌, ◌∙◌, length, rules}
use Rattle.network.specs.Limits.{path_words, work_words}
use Rattle.area.specs.Refusals.{refuses, number, numbered}
use Rattle.class_format.proofs.Quoted.{line_of_quote, class_refused, class_row}
use Rattle.class_quotes.proofs.Answered.{refused_line, routed_line}
use Rattle.class_quotes.proofs.lines.Classes.answer.Goals as goal

pub returns-in_err-terms : goal.returns-in_err-terms
returns-in_err-terms c =
    let says : numbered c.from_residual.result ≡ refuses (number c.in_err-terms.field-0.0) = search rules in
    rw says (class_refused c.args.self.now.rows.now c.args.self.now.area.now (c.args.self.now.last + 1) c.args.k _ c.in_err-terms.ensures.answer ∙ refused_line c.args.k _ _)

pub returns : goal.returns
returns c =
    let work : length c.args.work.now ≡ work_words = search rules in
    let path : length c.args.path.now ≡ path_words = search rules in
    class_row c.args.self.now.rows.now c.args.self.now.area.now (c.args.self.now.last + 1) c.args.k _ c.in_ok-terms.ensures.answer
    ∙ line_of_quote c.args.self.now.area.now (c.args.self.now.last + 1) c.args.k _ _ c.in_ok-terms.terms _ work path c.request.ensures
    ∙ routed_line c.args.k _ _ _ _ c.quote.ensures.answer c.quote.ensures.path
