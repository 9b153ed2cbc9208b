use Rattle.ddcmp_core.proofs.Sent.{sending}
use Rattle.ddcmp_core.proofs.laws.sends_for_a_reason.Goals as goal

pub returns : goal.returns
returns c = sending
