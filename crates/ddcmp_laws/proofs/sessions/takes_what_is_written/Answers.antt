use Rattle.ddcmp_laws.proofs.TakenWritten.{is_as_written}
use Rattle.ddcmp_laws.proofs.sessions.takes_what_is_written.Goals as goal

pub returns : goal.returns
returns c = record { written = is_as_written }
