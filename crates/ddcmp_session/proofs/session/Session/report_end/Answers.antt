use Rattle.ddcmp_session.proofs.LoggedLaws.{ends-counted, ends-uncounted}
use Rattle.ddcmp_session.proofs.session.Session.report_end.Goals.{then-counters, else-counters}
use Rattle.ddcmp_session.proofs.session.Session.report_end.Goals as goal

pub returns-clause-errors : goal.returns-clause-errors
returns-clause-errors c =
    elim c.if-counters.branch [
      | then-counters w ↦
          ends-counted _ c.args.self.now w.report_last_counters.new.self c.if-counters.self _
          w.if-counters.true w.self-is w.report_last_counters.ensures.state
          w.report_last_counters.ensures.errors c.report_last_line.ensures.errors
      | else-counters w ↦
          ends-uncounted _ c.args.self.now c.if-counters.self _ w.if-counters.false w.self-is
          c.report_last_line.ensures.errors
    ]
