use Rattle.ddcmp_laws.proofs.StartingLaws.{starts_and_drops, start_refused, send_refused}
use Rattle.ddcmp_laws.proofs.StartingLaws.{send_maintenance_refused}
use Rattle.ddcmp_laws.proofs.station.refuses_for_the_first_reason.Goals as goal

pub returns-clause-started : goal.returns-clause-started
returns-clause-started c = starts_and_drops

pub returns-clause-start : goal.returns-clause-start
returns-clause-start c = start_refused

pub returns-clause-send : goal.returns-clause-send
returns-clause-send c = send_refused

pub returns-clause-maintenance : goal.returns-clause-maintenance
returns-clause-maintenance c = send_maintenance_refused
