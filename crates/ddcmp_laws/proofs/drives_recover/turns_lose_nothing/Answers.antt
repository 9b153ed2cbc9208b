use Rattle.ddcmp_laws.proofs.DrivenRecovery.{loss-free, leads}
use Rattle.ddcmp_laws.proofs.drives_recover.turns_lose_nothing.Goals as goal

pub returns-clause-loss_free : goal.returns-clause-loss_free
returns-clause-loss_free c = λ first second ms other before to_a to_b f g h u.
    loss-free first second ms other before to_a to_b f g

pub returns-clause-leads : goal.returns-clause-leads
returns-clause-leads c = λ first second ms other before to_a to_b f g h u.
    leads first second ms other before to_a to_b f g
