use Rattle.ddcmp_laws.proofs.SessionTimingLaws.{delivered-of, quiet-of, read-of, stays-of, waits-of}
use Rattle.ddcmp_laws.proofs.session_timing.done_once_all_is_read.Goals as goal

pub returns-clause-read : goal.returns-clause-read
returns-clause-read c = read-of

pub returns-clause-delivered : goal.returns-clause-delivered
returns-clause-delivered c = delivered-of

pub returns-clause-quiet : goal.returns-clause-quiet
returns-clause-quiet c = quiet-of

pub returns-clause-stays : goal.returns-clause-stays
returns-clause-stays c = stays-of

pub returns-clause-awaited : goal.returns-clause-awaited
returns-clause-awaited c = waits-of
