use Rattle.ddcmp_session.proofs.LogLaws.{queued-took}
use Rattle.ddcmp_session.proofs.buffers.flow.write_errors.Goals as goal

pub returns-in-Bytes-clause-written : goal.returns-in-Bytes-clause-written
returns-in-Bytes-clause-written g c = queued-took _ c.errors_took.ensures.took

pub returns-in-Ended-clause-written : goal.returns-in-Ended-clause-written
returns-in-Ended-clause-written g c = queued-took _ c.errors_took-in-Ended.ensures.took
