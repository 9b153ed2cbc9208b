use Rattle.ddcmp_laws.proofs.DrivenRecovery.{recover}
use Rattle.ddcmp_laws.proofs.drives_recover.driven_recover.Goals as goal

pub returns : goal.returns
returns c = recover
