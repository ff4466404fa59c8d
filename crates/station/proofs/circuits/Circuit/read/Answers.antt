-- The circuit's three numbers are tested; past them its path has a link or more.
use Rattle.std.proofs.Common.{arith}
use Rattle.std.proofs.lemmas.Grind.{common_steps}
use Rattle.area.proofs.CircuitCases.{circuit_is, numbers_out, numbers_in}
use Rattle.station.proofs.circuits.Circuit.read.Goals as goal

pub returns-then-not-contains-clause-fits : goal.returns-then-not-contains-clause-fits
returns-then-not-contains-clause-fits c = numbers_out c.args.words.now (grind (arith, common_steps))

pub returns-clause-fits : goal.returns-clause-fits
returns-clause-fits c =
    numbers_in c.args.words.now (grind (arith, common_steps)) (grind (arith, common_steps)) (grind (arith, common_steps))

pub returns-clause-is : goal.returns-clause-is
returns-clause-is c = circuit_is c.args.words.now _ c.part-path.ensures
