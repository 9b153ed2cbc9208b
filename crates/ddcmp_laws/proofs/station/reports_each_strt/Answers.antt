use Rattle.ddcmp_laws.proofs.StationLaws.{restarting, halting}
use Rattle.ddcmp_laws.proofs.station.reports_each_strt.Goals as goal

pub returns-clause-restarts : goal.returns-clause-restarts
returns-clause-restarts c = restarting

pub returns-clause-halts : goal.returns-clause-halts
returns-clause-halts c = halting
