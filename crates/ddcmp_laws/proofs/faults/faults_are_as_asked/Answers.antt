use Rattle.std.proofs.Common.{arith}
use Rattle.ddcmp_laws.proofs.BridgeLaws.{altered-by, apart, due-later, lost-in, passed-by}
use Rattle.ddcmp_laws.proofs.faults.faults_are_as_asked.Goals as goal

pub returns-clause-lost : goal.returns-clause-lost
returns-clause-lost c = λ faults size k second. lost-in faults size k second 100 (omega arith)

pub returns-clause-altered : goal.returns-clause-altered
returns-clause-altered c = altered-by

pub returns-clause-passed : goal.returns-clause-passed
returns-clause-passed c = passed-by

pub returns-clause-apart : goal.returns-clause-apart
returns-clause-apart c = apart

pub returns-clause-delayed : goal.returns-clause-delayed
returns-clause-delayed c = due-later
