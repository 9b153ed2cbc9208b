use Rattle.ddcmp_laws.proofs.SessionWaking.{wakes-by-nak-pause, wakes-by-pause}
use Rattle.ddcmp_laws.proofs.SessionWaking.{wakes-by-timer}
use Rattle.ddcmp_laws.proofs.session_sleep.sessions_wake_in_time.Goals as goal

pub returns-clause-timer : goal.returns-clause-timer
returns-clause-timer c = wakes-by-timer

pub returns-clause-pause : goal.returns-clause-pause
returns-clause-pause c = wakes-by-pause

pub returns-clause-nak_pause : goal.returns-clause-nak_pause
returns-clause-nak_pause c = wakes-by-nak-pause
