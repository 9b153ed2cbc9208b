use Rattle.ddcmp_core.proofs.StartLaws.{begins_running}
use Rattle.ddcmp_core.proofs.laws.runs_after_startup.Goals as goal

pub returns : goal.returns
returns c = begins_running
