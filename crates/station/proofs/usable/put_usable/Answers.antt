-- The next flag tests its link's free units.
use Rattle.std.proofs.Common.{arith, rules, tests, false}
use lib.Dec.{leb}
use lib.ListN.{get_or}
use Rattle.area.proofs.Columns.{filled_more}
use Rattle.station.proofs.usable.put_usable.Goals as goal

pub loop-i-init : goal.loop-i-init
loop-i-init c = record { whole = search rules; filled = λ j low. absurd (omega (arith, low)) }

pub loop-i-preserved : goal.loop-i-preserved
loop-i-preserved c =
    record {
      whole = search rules;
      filled =
          filled_more false (λ i. leb c.args.units (get_or c.args.free.now i 0)) c.loop-i.i c.loop-i.usable c.loop-i.invariant.filled
          (omega (arith, c.loop-i.invariant.whole)) _ (search (rules, tests));
    }

pub returns : goal.returns
returns c = λ i low. c.loop-i.invariant.filled i (omega (arith, low))
