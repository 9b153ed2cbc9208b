use Rattle.ddcmp_bridge.proofs.JoinLaws.{directs-all, directs-begins, directs-faultless}
use Rattle.ddcmp_bridge.proofs.laws.good_frames_are_passed_on.Goals as goal

pub returns-clause-begins : goal.returns-clause-begins
returns-clause-begins c = directs-begins

pub returns-clause-all : goal.returns-clause-all
returns-clause-all c = directs-all

pub returns-clause-faultless : goal.returns-clause-faultless
returns-clause-faultless c = directs-faultless
