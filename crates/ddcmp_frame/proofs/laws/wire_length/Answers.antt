use Rattle.ddcmp_frame.proofs.WireLaws.{length-wire}
use Rattle.ddcmp_frame.proofs.laws.wire_length.Goals as goal

pub returns : goal.returns
returns c = length-wire
