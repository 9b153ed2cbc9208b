use Rattle.ddcmp_pair.proofs.FrameLists.{same-decides}
use Rattle.ddcmp_pair.proofs.laws.frames_are_compared_whole.Goals as goal

pub returns : goal.returns
returns c = same-decides
