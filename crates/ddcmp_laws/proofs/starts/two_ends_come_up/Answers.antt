use Rattle.ddcmp_laws.proofs.StartLaws.{ready_after_start, up_after_startup, accepts_after_startup}
use Rattle.ddcmp_laws.proofs.starts.two_ends_come_up.Goals as goal

pub returns-clause-ready : goal.returns-clause-ready
returns-clause-ready c = ready_after_start

pub returns-clause-up : goal.returns-clause-up
returns-clause-up c = up_after_startup

pub returns-clause-accepts : goal.returns-clause-accepts
returns-clause-accepts c = accepts_after_startup
