use Rattle.ddcmp_laws.proofs.StartingLaws.{peer_starts, maintenance_seen, maintenance_dropped}
use Rattle.ddcmp_laws.proofs.station.reports_what_it_leaves_alone.Goals as goal

pub returns-clause-peer_starts : goal.returns-clause-peer_starts
returns-clause-peer_starts c = peer_starts

pub returns-clause-seen : goal.returns-clause-seen
returns-clause-seen c = maintenance_seen

pub returns-clause-dropped : goal.returns-clause-dropped
returns-clause-dropped c = maintenance_dropped
