-- As many hold times as nodes are each tested; another count decides by itself.
use Rattle.std.proofs.Common.{rules, tests, ◌∙◌}
use Rattle.std.proofs.lemmas.Iterator.{YieldsList-from_slice}
use Rattle.std.proofs.lemmas.Iterator.Search.{all_from_yields_List}
use lib.Dec.{leb}
use Rattle.network.specs.Limits.{most_hold}
use Rattle.area.proofs.TableCases.{holds_all, holds_miscounted}
use Rattle.station.proofs.table.hold_times_fit.Goals as goal

pub returns-then-hold_times-n : goal.returns-then-hold_times-n
returns-then-hold_times-n c =
    all_from_yields_List (λ h. leb h most_hold) _ _ _ c.all.ensures.ran (YieldsList-from_slice c.args.hold_times.now c.iter.ensures.rest)
    (λ x b q k. search (rules, tests))
    ∙ holds_all c.args.n c.args.hold_times.now c.if-hold_times-n.true

pub returns-else-hold_times-n : goal.returns-else-hold_times-n
returns-else-hold_times-n c = search (rules, tests) ∙ holds_miscounted c.args.n c.args.hold_times.now c.if-hold_times-n.false
