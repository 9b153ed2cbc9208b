use Rattle.ddcmp_laws.proofs.StationLaws.{deaf, dumb}
use Rattle.ddcmp_laws.proofs.station.halted_is_deaf_and_dumb.Goals as goal

pub returns-clause-deaf : goal.returns-clause-deaf
returns-clause-deaf c = deaf

pub returns-clause-dumb : goal.returns-clause-dumb
returns-clause-dumb c = dumb
