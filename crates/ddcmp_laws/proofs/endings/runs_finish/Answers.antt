use Rattle.ddcmp_laws.proofs.EndLaws.{finishes_runs}
use Rattle.ddcmp_laws.proofs.endings.runs_finish.Goals as goal

pub returns : goal.returns
returns c = finishes_runs
