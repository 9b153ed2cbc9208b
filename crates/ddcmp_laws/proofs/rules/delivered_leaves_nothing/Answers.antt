use Rattle.ddcmp_laws.proofs.LinkRules.{leaves_nothing}
use Rattle.ddcmp_laws.proofs.rules.delivered_leaves_nothing.Goals as goal

pub returns : goal.returns
returns c = leaves_nothing
