use Rattle.ddcmp_laws.proofs.RecoveredLaws.{accepts_recovered, hands_over_recovered, accepts_first}
use Rattle.ddcmp_laws.proofs.RecoveredLaws.{hands_over_first}
use Rattle.ddcmp_laws.proofs.starts.takes_messages_once_recovered.Goals as goal

pub returns-clause-accepts : goal.returns-clause-accepts
returns-clause-accepts c = accepts_recovered

pub returns-clause-hands_over : goal.returns-clause-hands_over
returns-clause-hands_over c = hands_over_recovered

pub returns-clause-first_accepted : goal.returns-clause-first_accepted
returns-clause-first_accepted c = accepts_first

pub returns-clause-first_handed_up : goal.returns-clause-first_handed_up
returns-clause-first_handed_up c = hands_over_first
