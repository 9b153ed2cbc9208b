use Rattle.ddcmp_laws.proofs.OneConnection.{one_history}
use Rattle.ddcmp_laws.proofs.connections.one_connection_is_a_history.Goals as goal

pub returns : goal.returns
returns c = one_history
