-- What a release gives stands behind the row's name.
use Rattle.std.proofs.Common.{append_assoc}
use Rattle.ledger.specs.Entries.{releasing}
use Rattle.ledger.specs.History.{given_to}
use Rattle.call_list.specs.declared.Row.TheVariants.{Releases}
use Rattle.call_list.specs.Calls.{lent}
use Rattle.history.specs.Lines.{name_text, given_text, lent_text}
use Rattle.history.proofs.list.put_row.Goals as goal

pub returns-in-Releases-clause-text : goal.returns-in-Releases-clause-text
unfolding lent lent_text
returns-in-Releases-clause-text c =
    rw (c.put_release.ensures.text, c.put_name.ensures.text, c.in-Releases.is)
    (append_assoc c.args.text.now.items (name_text c.args.k (Releases c.in-Releases.circuit))
    (given_text (given_to c.args.area.now (releasing c.in-Releases.circuit))))
