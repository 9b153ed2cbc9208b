use Rattle.ddcmp_core.proofs.TimedLaws.{timed_new, timed_on, timed_next, timed_started}
use Rattle.ddcmp_core.proofs.TimedLaws.{timed_in_maintenance, timed_halted, timed_accepted}
use Rattle.ddcmp_core.proofs.TimedLaws.{timed_taken, timed_expired, timed_armed, timed_chosen}
use Rattle.ddcmp_core.proofs.laws.stays_timed.Goals as goal

pub returns-clause-new : goal.returns-clause-new
returns-clause-new c = timed_new

pub returns-clause-receives : goal.returns-clause-receives
returns-clause-receives c = timed_on

pub returns-clause-sends : goal.returns-clause-sends
returns-clause-sends c = timed_next

pub returns-clause-starts : goal.returns-clause-starts
returns-clause-starts c = timed_started

pub returns-clause-maintains : goal.returns-clause-maintains
returns-clause-maintains c = timed_in_maintenance

pub returns-clause-halts : goal.returns-clause-halts
returns-clause-halts c = timed_halted

pub returns-clause-accepts : goal.returns-clause-accepts
returns-clause-accepts c = timed_accepted

pub returns-clause-takes : goal.returns-clause-takes
returns-clause-takes c = timed_taken

pub returns-clause-expires : goal.returns-clause-expires
returns-clause-expires c = timed_expired

pub returns-clause-arms : goal.returns-clause-arms
returns-clause-arms c = timed_armed

pub returns-clause-chooses : goal.returns-clause-chooses
returns-clause-chooses c = timed_chosen
