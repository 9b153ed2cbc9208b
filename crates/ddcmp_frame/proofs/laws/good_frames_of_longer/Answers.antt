use Rattle.ddcmp_frame.proofs.ReadingLaws.{good-more}
use Rattle.ddcmp_frame.proofs.laws.good_frames_of_longer.Goals as goal

pub returns : goal.returns
returns c = good-more
