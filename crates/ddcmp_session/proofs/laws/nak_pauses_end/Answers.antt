use Rattle.ddcmp_session.proofs.NakPauseLaws.{ends-in-time, is-over, never-prolonged}
use Rattle.ddcmp_session.proofs.laws.nak_pauses_end.Goals as goal

pub returns-clause-kept : goal.returns-clause-kept
returns-clause-kept c = never-prolonged

pub returns-clause-short : goal.returns-clause-short
returns-clause-short c = ends-in-time

pub returns-clause-over : goal.returns-clause-over
returns-clause-over c = is-over
