use Rattle.ddcmp_laws.proofs.LinkRecovery.{loss-free, leads}
use Rattle.ddcmp_laws.proofs.recovery.links_lose_nothing.Goals as goal

pub returns-clause-loss_free : goal.returns-clause-loss_free
returns-clause-loss_free c = λ first second ms other line other_line before to_a to_b f g o h u.
    loss-free first second ms other line other_line before to_a to_b f g o

pub returns-clause-leads : goal.returns-clause-leads
returns-clause-leads c = λ first second ms other line other_line before to_a to_b f g o h u.
    leads first second ms other line other_line before to_a to_b f g o
