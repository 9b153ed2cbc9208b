use Rattle.ddcmp_laws.proofs.LinkRules.{sleeps_while_off, sets_its_moment, has_its_moment}
use Rattle.ddcmp_laws.proofs.LinkRules.{waits_for_it}
use Rattle.ddcmp_laws.proofs.LinkRules.{expires_from_it, stays_put}
use Rattle.ddcmp_laws.proofs.rules.wakes_at_its_moment.Goals as goal

pub returns-clause-asleep : goal.returns-clause-asleep
returns-clause-asleep c = sleeps_while_off

pub returns-clause-begins : goal.returns-clause-begins
returns-clause-begins c = sets_its_moment

pub returns-clause-moment : goal.returns-clause-moment
returns-clause-moment c = has_its_moment

pub returns-clause-waits : goal.returns-clause-waits
returns-clause-waits c = waits_for_it

pub returns-clause-expires : goal.returns-clause-expires
returns-clause-expires c = expires_from_it

pub returns-clause-stays : goal.returns-clause-stays
returns-clause-stays c = stays_put
