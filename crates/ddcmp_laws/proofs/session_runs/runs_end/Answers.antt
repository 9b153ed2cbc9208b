use Rattle.ddcmp_laws.proofs.RunLaws.{runs_to_end}
use Rattle.ddcmp_laws.proofs.session_runs.runs_end.Goals as goal

pub returns : goal.returns
returns c = runs_to_end
