use Rattle.ddcmp_laws.proofs.Sweeping.{shortest, loses-nothing}
use Rattle.ddcmp_laws.proofs.sweeps.each_line_has_a_sweep.Goals as goal

pub returns-clause-sweep : goal.returns-clause-sweep
returns-clause-sweep c = shortest

pub returns-clause-loss_free : goal.returns-clause-loss_free
returns-clause-loss_free c = loses-nothing
