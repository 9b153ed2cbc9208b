use Rattle.std.proofs.Common.{sym}
use Rattle.ddcmp_session.proofs.LoggedLaws.{reported-object, reported-line}
use Rattle.ddcmp_session.proofs.session.Session.report_counters.Goals as goal

pub returns-then-self-clause-errors : goal.returns-then-self-clause-errors
returns-then-self-clause-errors c =
    rw (sym c.self.view_is) (reported-object _ _ _ _ _ c.if-self.true c.write_object.ensures)

pub returns-else-self-clause-errors : goal.returns-else-self-clause-errors
returns-else-self-clause-errors c =
    rw (sym c.self.view_is) (reported-line _ _ _ _ _ c.if-self.false c.write_line.ensures)
