use Rattle.ddcmp_laws.proofs.LinkRecovery.{woken}
use Rattle.ddcmp_laws.proofs.recovery.a_woken_timer_expires.Goals as goal

pub returns : goal.returns
returns c = woken
