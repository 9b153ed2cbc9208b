use Rattle.ddcmp_laws.proofs.StationLaws.{data_leave_the_timer, data_start_the_timer, ended}
use Rattle.ddcmp_laws.proofs.StationLaws.{renewed, asks_at_expiry, starts_anew, ended_by_nak}
use Rattle.ddcmp_laws.proofs.StationLaws.{asks_nothing}
use Rattle.ddcmp_laws.proofs.CallLaws.{timer_stays_on}
use Rattle.ddcmp_laws.proofs.station.timer_is_not_starved.Goals as goal

pub returns-clause-running : goal.returns-clause-running
returns-clause-running c = data_leave_the_timer

pub returns-clause-starts : goal.returns-clause-starts
returns-clause-starts c = data_start_the_timer

pub returns-clause-ends : goal.returns-clause-ends
returns-clause-ends c = ended

pub returns-clause-anew : goal.returns-clause-anew
returns-clause-anew c = starts_anew

pub returns-clause-ends_by_nak : goal.returns-clause-ends_by_nak
returns-clause-ends_by_nak c = ended_by_nak

pub returns-clause-asks_nothing : goal.returns-clause-asks_nothing
returns-clause-asks_nothing c = asks_nothing

pub returns-clause-renewed : goal.returns-clause-renewed
returns-clause-renewed c = renewed

pub returns-clause-asks : goal.returns-clause-asks
returns-clause-asks c = asks_at_expiry

pub returns-clause-stays : goal.returns-clause-stays
returns-clause-stays c = timer_stays_on
