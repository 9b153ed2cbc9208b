use Rattle.ddcmp_laws.proofs.SessionRecovering.{sessions-recover}
use Rattle.ddcmp_laws.proofs.recovery.sessions_recover.Goals as goal

pub returns : goal.returns
returns c = sessions-recover
