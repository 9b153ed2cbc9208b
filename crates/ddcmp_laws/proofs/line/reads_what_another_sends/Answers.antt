use Rattle.ddcmp_laws.proofs.LineLaws.{read_as_sent, closed_after_sent}
use Rattle.ddcmp_laws.proofs.line.reads_what_another_sends.Goals as goal

pub returns-clause-read : goal.returns-clause-read
returns-clause-read c = read_as_sent

pub returns-clause-closed : goal.returns-clause-closed
returns-clause-closed c = closed_after_sent
