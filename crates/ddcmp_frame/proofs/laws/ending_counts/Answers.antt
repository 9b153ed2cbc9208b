use Rattle.ddcmp_frame.proofs.ReadingLaws.{ending-offset}
use Rattle.ddcmp_frame.proofs.laws.ending_counts.Goals as goal

pub returns : goal.returns
returns c = ending-offset
