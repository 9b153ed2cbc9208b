use Rattle.std.proofs.Common.{refl}
use Rattle.ddcmp_session.proofs.GoingLaws.{stays}
use Rattle.ddcmp_session.proofs.StopLaws.{keeps-same}
use Rattle.ddcmp_session.proofs.buffers.Buffers.read_if.Goals as goal

pub returns-else-reads-clause-on : goal.returns-else-reads-clause-on
returns-else-reads-clause-on g c = λ session. stays refl refl

pub returns-else-reads-clause-keeps : goal.returns-else-reads-clause-keeps
returns-else-reads-clause-keeps g c = keeps-same refl
