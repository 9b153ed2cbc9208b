use Rattle.ddcmp_laws.proofs.StartingLaws.{strt_answered, stack_begins, ack_begins}
use Rattle.ddcmp_laws.proofs.StartingLaws.{hears_nothing_else}
use Rattle.ddcmp_laws.proofs.station.starts_by_what_answers_it.Goals as goal

pub returns-clause-strt : goal.returns-clause-strt
returns-clause-strt c = strt_answered

pub returns-clause-stack : goal.returns-clause-stack
returns-clause-stack c = stack_begins

pub returns-clause-ack : goal.returns-clause-ack
returns-clause-ack c = ack_begins

pub returns-clause-nothing_else : goal.returns-clause-nothing_else
returns-clause-nothing_else c = hears_nothing_else
