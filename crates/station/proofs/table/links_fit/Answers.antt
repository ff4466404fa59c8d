-- What tests all the numbers of the links is the test of all links.
use Rattle.std.proofs.Common.{arith, rules, tests, refl, ◌∙◌}
use Rattle.std.proofs.lemmas.Iterator.{YieldsList-from_range}
use Rattle.std.proofs.lemmas.Iterator.Search.{all_from_yields_List}
use Rattle.area.specs.Formed.{link_fits}
use Rattle.area.proofs.TableCases.{links_all}
use Rattle.station.proofs.table.links_fit.Goals as goal

pub returns : goal.returns
returns c =
    let m = c.args.links.now.count in
    let words = c.args.links.now.words.now in
    all_from_yields_List (link_fits c.args.n words) _ _ _ c.all.ensures.ran (YieldsList-from_range 0 m m refl (omega arith))
    (λ x b q k. search (rules, tests))
    ∙ links_all c.args.n m words
