use Rattle.ddcmp_laws.proofs.TurnsGoOn.{shortest, loses-nothing}
use Rattle.ddcmp_laws.proofs.drives_recover.each_line_has_a_sweep_of_turns.Goals as goal

pub returns-clause-sweep : goal.returns-clause-sweep
returns-clause-sweep c = shortest

pub returns-clause-loss_free : goal.returns-clause-loss_free
returns-clause-loss_free c = loses-nothing
