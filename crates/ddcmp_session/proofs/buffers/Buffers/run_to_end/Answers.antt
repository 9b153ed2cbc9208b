use Rattle.std.proofs.Common.{◌∙◌}
use Rattle.ddcmp_session.proofs.Finished.{ran-to-end, reports-to-end}
use Rattle.ddcmp_session.proofs.StopLaws.{to-end}
use Rattle.ddcmp_session.proofs.buffers.Buffers.run_to_end.Goals as goal

pub returns-clause-ends : goal.returns-clause-ends
returns-clause-ends g c =
    ran-to-end c.outcome.ensures.well c.run_lines-ran.ensures.ends
    c.finish-finished.ensures.finishes c.drain_errors.ensures.drains c.drain_errors.ensures.session

pub returns-clause-stops : goal.returns-clause-stops
unfolding ran-to-end
returns-clause-stops g c = (
  ran-to-end c.outcome.ensures.well c.run_lines-ran.ensures.stops.0
      c.finish-finished.ensures.finishes c.drain_errors.ensures.drains
      c.drain_errors.ensures.session,
  to-end c.outcome.ensures.stops c.run_lines-ran.ensures.stops.1,
)

pub returns-clause-reports : goal.returns-clause-reports
returns-clause-reports g c = λ fault untimed e.
    reports-to-end c.run_lines-ran.ensures.ends c.finish-finished.ensures.finishes
    c.drain_errors.ensures.drains
    (λ same. c.run_lines-ran.ensures.reports fault untimed (same ∙ e))
    (λ is. c.finish-finished.ensures.reports _ fault is untimed)
    (c.outcome.ensures.fault fault e)
