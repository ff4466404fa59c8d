-- The next node's hold time is filled in.
use Rattle.std.proofs.Common.{arith, rules}
use Rattle.area.specs.Station.{table_in}
use Rattle.area.specs.Books.{hold_into}
use Rattle.area.proofs.ReadCases.{formed_nodes}
use Rattle.area.proofs.Columns.{filled_more}
use Rattle.station.proofs.formed.Station.holds_into.Goals as goal

pub loop-v-init : goal.loop-v-init
loop-v-init c = record { whole = search rules; filled = λ j low. absurd (omega (arith, low)) }

pub loop-v-preserved : goal.loop-v-preserved
loop-v-preserved c =
    let w = c.args.self.now.area.now in
    record {
      whole = search rules;
      filled =
          filled_more 0 (hold_into (table_in w) c.args.target) c.loop-v.v c.loop-v.holds c.loop-v.invariant.filled
          (omega (arith, c.loop-v.invariant.whole, formed_nodes w c.args.self.now.formed, c.nodes-v-end.ensures)) _ c.hold_into.ensures;
    }

pub returns : goal.returns
returns c = λ v low. c.loop-v.invariant.filled v (omega (arith, low, c.nodes-v-end.ensures))
