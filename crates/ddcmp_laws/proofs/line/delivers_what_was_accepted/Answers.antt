use Rattle.ddcmp_laws.proofs.LineLaws.{written, delivered}
use Rattle.ddcmp_laws.proofs.line.delivers_what_was_accepted.Goals as goal

pub returns-clause-wrote : goal.returns-clause-wrote
returns-clause-wrote c = written

pub returns-clause-delivered : goal.returns-clause-delivered
returns-clause-delivered c = delivered
