use Rattle.ddcmp_laws.proofs.StationLaws.{ack_unanswered, nak_unanswered, ack_is_sent_once}
use Rattle.ddcmp_laws.proofs.StationLaws.{nak_is_sent_once, data_answer}
use Rattle.ddcmp_laws.proofs.station.answers_no_answer.Goals as goal

pub returns-clause-ack : goal.returns-clause-ack
returns-clause-ack c = ack_unanswered

pub returns-clause-nak : goal.returns-clause-nak
returns-clause-nak c = nak_unanswered

pub returns-clause-acked : goal.returns-clause-acked
returns-clause-acked c = ack_is_sent_once

pub returns-clause-naked : goal.returns-clause-naked
returns-clause-naked c = nak_is_sent_once

pub returns-clause-data : goal.returns-clause-data
returns-clause-data c = data_answer
