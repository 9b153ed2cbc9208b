use Rattle.ddcmp_pair.proofs.Runs.{run-append}
use Rattle.ddcmp_pair.proofs.Limits.{run-limits}
use Rattle.ddcmp_pair.proofs.Modes.{run-modes}
use Rattle.ddcmp_pair.proofs.laws.runs.Goals as goal

pub returns-clause-parts : goal.returns-clause-parts
returns-clause-parts c = run-append

pub returns-clause-limits : goal.returns-clause-limits
returns-clause-limits c = run-limits

pub returns-clause-modes : goal.returns-clause-modes
returns-clause-modes c = run-modes
