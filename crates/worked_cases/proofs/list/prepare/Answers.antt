-- An area that is long enough takes the links of each ground, whatever it held; on net A the admission is M8's.
use Rattle.std.proofs.Common.{rules}
use Rattle.cases.proofs.Areas.{loaded_a, m8_admitted}
use Rattle.worked_cases.proofs.Grounds.{loaded_for}
use Rattle.worked_cases.proofs.list.prepare.Goals as goal

pub returns-in-AfterM8 : goal.returns-in-AfterM8
returns-in-AfterM8 c =
    let e = m8_admitted _ (loaded_a c.args.area.now (search rules)) in
    record {
      formed = rw (c.admit_m8.ensures, c.load.ensures.area, c.net.ensures, c.in-AfterM8.is) e.0;
      station = rw (c.admit_m8.ensures, c.load.ensures.area, c.net.ensures, c.in-AfterM8.is) e.1;
    }

pub returns-in-OnA : goal.returns-in-OnA
returns-in-OnA c =
    let e = loaded_for c.args.area.now (search rules) c.args.ground c.in-OnA.is in
    record { formed = rw (c.load.ensures.area, c.net.ensures) e.0; station = rw (c.load.ensures.area, c.net.ensures) e.1 }
