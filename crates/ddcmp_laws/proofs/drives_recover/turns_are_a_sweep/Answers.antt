use Rattle.ddcmp_laws.proofs.TurnSweeps.{sweeps}
use Rattle.ddcmp_laws.proofs.drives_recover.turns_are_a_sweep.Goals as goal

pub returns : goal.returns
returns c = sweeps
