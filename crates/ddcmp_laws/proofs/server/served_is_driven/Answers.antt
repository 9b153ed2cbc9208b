use Rattle.ddcmp_laws.proofs.Serving.{served}
use Rattle.ddcmp_laws.proofs.server.served_is_driven.Goals as goal

pub returns : goal.returns
returns c = served
