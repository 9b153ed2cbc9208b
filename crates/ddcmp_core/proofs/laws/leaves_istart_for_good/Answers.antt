use Rattle.ddcmp_core.proofs.StartLaws.{istart_stays, next_state, expired_state}
use Rattle.ddcmp_core.proofs.laws.leaves_istart_for_good.Goals as goal

pub returns-clause-receives : goal.returns-clause-receives
returns-clause-receives c = istart_stays

pub returns-clause-sends : goal.returns-clause-sends
returns-clause-sends c = next_state

pub returns-clause-expires : goal.returns-clause-expires
returns-clause-expires c = expired_state
