use Rattle.ddcmp_laws.proofs.LinkRules.{takes_exactly, accepts}
use Rattle.ddcmp_laws.proofs.rules.accepts_while_it_has_room.Goals as goal

pub returns-clause-exactly : goal.returns-clause-exactly
returns-clause-exactly c = takes_exactly

pub returns-clause-accepts : goal.returns-clause-accepts
returns-clause-accepts c = accepts
