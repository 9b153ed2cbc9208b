use Rattle.ddcmp_laws.proofs.LinkRecovery.{recover}
use Rattle.ddcmp_laws.proofs.recovery.links_recover.Goals as goal

pub returns : goal.returns
returns c = recover
