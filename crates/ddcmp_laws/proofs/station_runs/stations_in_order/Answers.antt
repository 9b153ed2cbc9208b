use Rattle.ddcmp_laws.proofs.StationRuns.{stations-to-b, stations-to-a}
use Rattle.ddcmp_laws.proofs.station_runs.stations_in_order.Goals as goal

pub returns-clause-to_b : goal.returns-clause-to_b
returns-clause-to_b c = stations-to-b

pub returns-clause-to_a : goal.returns-clause-to_a
returns-clause-to_a c = stations-to-a
