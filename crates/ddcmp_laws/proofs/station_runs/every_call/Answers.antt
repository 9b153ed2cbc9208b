use Rattle.ddcmp_laws.proofs.StationRuns.{station-calls-in-order, station-calls-linked}
use Rattle.ddcmp_laws.proofs.StationRuns.{station-calls-quiet, same-calls, both-clear}
use Rattle.ddcmp_laws.proofs.StationRuns.{leaves-out}
use Rattle.ddcmp_laws.proofs.station_runs.every_call.Goals as goal

pub returns-clause-order : goal.returns-clause-order
returns-clause-order c = station-calls-in-order

pub returns-clause-links : goal.returns-clause-links
returns-clause-links c = station-calls-linked

pub returns-clause-no_restart : goal.returns-clause-no_restart
returns-clause-no_restart c = station-calls-quiet

pub returns-clause-same : goal.returns-clause-same
returns-clause-same c = same-calls

pub returns-clause-clears : goal.returns-clause-clears
returns-clause-clears c = both-clear

pub returns-clause-leaves_out : goal.returns-clause-leaves_out
returns-clause-leaves_out c = leaves-out
