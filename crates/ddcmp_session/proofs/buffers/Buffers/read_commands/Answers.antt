use Rattle.ddcmp_session.proofs.GoingLaws.{goes-then, reports-then}
use Rattle.ddcmp_session.proofs.LinesGo.{same-err}
use Rattle.ddcmp_session.proofs.buffers.Buffers.read_commands.Goals as goal

pub returns-in-Err-clause-reports : goal.returns-in-Err-clause-reports
returns-in-Err-clause-reports g c = λ fault e. c.in-Err.ensures.reports fault (same-err e)

pub returns-in-Ok-pass_input-clause-on : goal.returns-in-Ok-pass_input-clause-on
returns-in-Ok-pass_input-clause-on g c = goes-then c.read_input.ensures.on c.pass_input.ensures.on

pub returns-in-Err-pass_input-clause-on : goal.returns-in-Err-pass_input-clause-on
returns-in-Err-pass_input-clause-on g c =
    goes-then c.read_input.ensures.on c.pass_input.ensures.on

pub returns-in-Err-pass_input-clause-reports : goal.returns-in-Err-pass_input-clause-reports
returns-in-Err-pass_input-clause-reports g c = λ fault e.
    reports-then c.read_input.ensures.on
    (c.in-Err-pass_input.ensures.reports fault (same-err e))
