use Rattle.ddcmp_laws.proofs.StationRuns.{new-station, station-call, station-step, both-stations}
use Rattle.ddcmp_laws.proofs.station_runs.station_calls_are_calls.Goals as goal

pub returns-clause-begins : goal.returns-clause-begins
returns-clause-begins c = new-station

pub returns-clause-call : goal.returns-clause-call
returns-clause-call c = station-call

pub returns-clause-history : goal.returns-clause-history
returns-clause-history c = station-step

pub returns-clause-both : goal.returns-clause-both
returns-clause-both c = both-stations
