use Rattle.ddcmp_device.proofs.PaceLaws.{holds, sends}
use Rattle.ddcmp_device.proofs.pace.paces_hold.Goals as goal

pub returns-clause-ahead : goal.returns-clause-ahead
returns-clause-ahead c = holds

pub returns-clause-sent : goal.returns-clause-sent
returns-clause-sent c = sends
