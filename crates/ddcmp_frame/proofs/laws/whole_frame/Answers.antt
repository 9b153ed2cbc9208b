use Rattle.ddcmp_frame.proofs.FrameLaws.{whole-items, whole-closed}
use Rattle.ddcmp_frame.proofs.laws.whole_frame.Goals as goal

pub returns-clause-item : goal.returns-clause-item
returns-clause-item c = λ max fill text message h. whole-items max text message fill h

pub returns-clause-closed : goal.returns-clause-closed
returns-clause-closed c = λ max fill text message h. whole-closed max text message fill h
