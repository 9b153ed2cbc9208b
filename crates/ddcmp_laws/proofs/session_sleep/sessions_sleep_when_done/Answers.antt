use Rattle.ddcmp_laws.proofs.SessionSleeping.{slumber_a, slumber_b}
use Rattle.ddcmp_laws.proofs.session_sleep.sessions_sleep_when_done.Goals as goal

pub returns-clause-from_a : goal.returns-clause-from_a
returns-clause-from_a c = slumber_a

pub returns-clause-from_b : goal.returns-clause-from_b
returns-clause-from_b c = slumber_b
