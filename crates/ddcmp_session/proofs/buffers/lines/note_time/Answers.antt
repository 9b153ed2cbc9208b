use Rattle.std.proofs.Common.{refl}
use Rattle.ddcmp_session.proofs.LinesGo.{none-over}
use Rattle.ddcmp_session.proofs.buffers.lines.note_time.Goals as goal

pub returns-else-eq-clause-over : goal.returns-else-eq-clause-over
returns-else-eq-clause-over c = λ held known. none-over refl refl
