use Rattle.ddcmp_laws.proofs.RunLaws.{ordered}
use Rattle.ddcmp_laws.proofs.session_runs.runs_are_calls.Goals as goal

pub returns : goal.returns
returns c = ordered
