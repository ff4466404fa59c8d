-- A well-formed area has room for its circuits.
use Rattle.std.proofs.Common.{arith}
use Rattle.area.proofs.ReadCases.{formed_long, formed_held}
use Rattle.station.proofs.formed.Station.places.Goals as goal

pub invariant_of-result : goal.invariant_of-result
invariant_of-result c =
    record {
      long = formed_long c.args.self.now.area.now c.args.self.now.formed;
      few = omega (arith, formed_held c.args.self.now.area.now c.args.self.now.formed);
    }
