use Rattle.ddcmp_laws.proofs.ConnectionLaws.{two_runs}
use Rattle.ddcmp_laws.proofs.connections.sessions_over_connections_are_runs.Goals as goal

pub returns : goal.returns
returns c = two_runs
