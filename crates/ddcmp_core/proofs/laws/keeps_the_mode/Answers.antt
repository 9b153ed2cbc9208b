use Rattle.std.proofs.Common.{refl}
use Rattle.ddcmp_core.proofs.ModeLaws.{mode_on, mode_next, mode_expired}
use Rattle.ddcmp_core.proofs.laws.keeps_the_mode.Goals as goal

pub returns-clause-receives : goal.returns-clause-receives
returns-clause-receives c = mode_on

pub returns-clause-sends : goal.returns-clause-sends
returns-clause-sends c = mode_next

pub returns-clause-expires : goal.returns-clause-expires
returns-clause-expires c = mode_expired
