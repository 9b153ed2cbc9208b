use Rattle.ddcmp_laws.proofs.LinkRules.{turn_sets, turn_waits, turn_expires, turn_leaves}
use Rattle.ddcmp_laws.proofs.rules.turns_expire_at_their_moment.Goals as goal

pub returns-clause-begins : goal.returns-clause-begins
returns-clause-begins c = turn_sets

pub returns-clause-waits : goal.returns-clause-waits
returns-clause-waits c = turn_waits

pub returns-clause-expires : goal.returns-clause-expires
returns-clause-expires c = turn_expires

pub returns-clause-off : goal.returns-clause-off
returns-clause-off c = turn_leaves
