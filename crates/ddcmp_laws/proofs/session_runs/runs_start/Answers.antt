use Rattle.ddcmp_laws.proofs.Ready.{starts-before, starts-to-end}
use Rattle.ddcmp_laws.proofs.session_runs.runs_start.Goals as goal

pub returns-clause-each : goal.returns-clause-each
returns-clause-each c = starts-to-end

pub returns-clause-last : goal.returns-clause-last
returns-clause-last c = starts-before
