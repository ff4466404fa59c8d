-- Past the lengths the request decides.
use Rattle.std.proofs.Common.{arith}
use Rattle.rules.proofs.CallCases.{fails_8, request_passes}
use Rattle.booking.proofs.checks.check_request.Goals as goal

pub returns-then-not-request_fits : goal.returns-then-not-request_fits
returns-then-not-request_fits c = fails_8 c.args.station.now.area.now c.args.work c.args.path c.args.r (omega arith) (omega arith) (cc)

pub returns : goal.returns
returns c = request_passes c.args.station.now.area.now c.args.work c.args.path c.args.r (omega arith) (omega arith) (cc)
