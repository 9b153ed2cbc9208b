use Rattle.ddcmp_laws.proofs.Settling.{from_new}
use Rattle.ddcmp_laws.proofs.settles.each_frame_has_a_cause.Goals as goal

pub returns : goal.returns
returns c = from_new
