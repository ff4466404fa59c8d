-- By the theorem of the crate `ledger` the second run's text and bookings follow from the first one's.
use Rattle.std.proofs.Common.{◌∙◌}
use Rattle.call_list.proofs.Runs.{same_bookings}
use Rattle.history.proofs.Unquoted.{text_again}
use Rattle.history.proofs.both_runs.Goals as goal

pub returns-clause-unquoted : goal.returns-clause-unquoted
returns-clause-unquoted g c =
    c.run-unquoted.ensures.text
    ∙ text_again c.args.first.now c.args.second.now c.run-text.ensures.accepted c.run-unquoted.ensures.accepted

pub returns-clause-same : goal.returns-clause-same
returns-clause-same g c =
    (same_bookings c.args.first.now c.args.second.now c.run-text.new.area c.run-unquoted.new.area
    c.run-text.ensures.accepted c.run-unquoted.ensures.accepted c.run-text.ensures.area c.run-unquoted.ensures.area).0

pub returns-clause-words : goal.returns-clause-words
returns-clause-words g c =
    (same_bookings c.args.first.now c.args.second.now c.run-text.new.area c.run-unquoted.new.area
    c.run-text.ensures.accepted c.run-unquoted.ensures.accepted c.run-text.ensures.area c.run-unquoted.ensures.area).1
