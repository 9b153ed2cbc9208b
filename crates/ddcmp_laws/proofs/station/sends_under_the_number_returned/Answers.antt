use Rattle.ddcmp_laws.proofs.NumberLaws.{kept_under_answer, kept_when_sent, kept_once}
use Rattle.ddcmp_laws.proofs.NumberLaws.{kept_after_next, kept_after_accept, kept_after_take}
use Rattle.ddcmp_laws.proofs.NumberLaws.{kept_after_expire, kept_after_arm, kept_after_on}
use Rattle.ddcmp_laws.proofs.station.sends_under_the_number_returned.Goals as goal

pub returns-clause-answered : goal.returns-clause-answered
returns-clause-answered c = kept_under_answer

pub returns-clause-sent : goal.returns-clause-sent
returns-clause-sent c = kept_when_sent

pub returns-clause-one : goal.returns-clause-one
returns-clause-one c = kept_once

pub returns-clause-stays_when_sent : goal.returns-clause-stays_when_sent
returns-clause-stays_when_sent c = kept_after_next

pub returns-clause-stays_when_accepted : goal.returns-clause-stays_when_accepted
returns-clause-stays_when_accepted c = kept_after_accept

pub returns-clause-stays_when_taken : goal.returns-clause-stays_when_taken
returns-clause-stays_when_taken c = kept_after_take

pub returns-clause-stays_when_expired : goal.returns-clause-stays_when_expired
returns-clause-stays_when_expired c = kept_after_expire

pub returns-clause-stays_when_armed : goal.returns-clause-stays_when_armed
returns-clause-stays_when_armed c = kept_after_arm

pub returns-clause-stays_when_received : goal.returns-clause-stays_when_received
returns-clause-stays_when_received c = kept_after_on
