use Rattle.ddcmp_session.proofs.GoingLaws.{goes-then, reports-then}
use Rattle.ddcmp_session.proofs.buffers.Buffers.pass.Goals as goal

pub returns-then-wants_line-clause-on : goal.returns-then-wants_line-clause-on
returns-then-wants_line-clause-on g c = goes-then c.move_all.ensures.on c.end_if_down.ensures.on

pub returns-then-wants_line-clause-reports : goal.returns-then-wants_line-clause-reports
returns-then-wants_line-clause-reports g c = λ fault e.
    reports-then c.move_all.ensures.on (c.end_if_down.ensures.reports fault e)
