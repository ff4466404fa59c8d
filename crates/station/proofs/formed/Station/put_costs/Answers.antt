-- The next link's cost is filled in.
use Rattle.std.proofs.Common.{arith, rules, ap, ◌∙◌, List, ℕ}
use Rattle.network.specs.Words.{field}
use Rattle.area.specs.Station.{table_in, cost_of}
use Rattle.area.proofs.ReadCases.{formed_links}
use Rattle.area.proofs.Columns.{filled_more}
use Rattle.station.proofs.formed.Station.put_costs.Goals as goal

pub loop-i-init : goal.loop-i-init
loop-i-init c = record { whole = search rules; filled = λ j low. absurd (omega (arith, low)) }

pub loop-i-preserved : goal.loop-i-preserved
loop-i-preserved c =
    let w = c.args.self.now.area.now in
    record {
      whole = search rules;
      filled =
          filled_more 0 (cost_of (table_in w)) c.loop-i.i c.loop-i.costs c.loop-i.invariant.filled
          (omega (arith, c.loop-i.invariant.whole, formed_links w c.args.self.now.formed, c.links-links.ensures.count)) _
          (c.get.ensures.cost ∙ ap (λ (words : List ℕ). field words c.loop-i.i 3) c.links-links.ensures.words);
    }

pub returns : goal.returns
returns c = λ i low. c.loop-i.invariant.filled i (omega (arith, low, c.links-links.ensures.count))
