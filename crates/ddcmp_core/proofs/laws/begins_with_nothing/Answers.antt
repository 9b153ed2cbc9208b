use Rattle.ddcmp_core.proofs.StartLaws.{nothing_at_start, maintenance_pops}
use Rattle.ddcmp_core.proofs.laws.begins_with_nothing.Goals as goal

pub returns-clause-starting : goal.returns-clause-starting
returns-clause-starting c = nothing_at_start

pub returns-clause-maintenance : goal.returns-clause-maintenance
returns-clause-maintenance c = maintenance_pops
