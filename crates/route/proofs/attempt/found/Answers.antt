-- The notes are those of the trace, and the pass along them sums the links' own weights.
use Rattle.std.proofs.Common.{◌∙◌, ap}
use Rattle.network.specs.Cut.{Notes}
use Rattle.search.proofs.ebf.Outcomes.{passes}
use Rattle.route.proofs.attempt.found.Goals as goal

pub returns : goal.returns
returns c =
    let noted = ap (λ (n : Notes). n.next) (c.notes.view_is ∙ c.trace-notes.ensures) in
    let is = passes _ c.args.p.now _ _ _ c.args.which c.args.path.now noted c.forward-w.ensures.is in
    record { answer = is.0; path = is.1 }
