use Rattle.std.proofs.Common.{sym}
use Rattle.ddcmp_session.proofs.session.Session.report_wrong.Goals as goal

pub returns-in-Damaged-clause-errors : goal.returns-in-Damaged-clause-errors
returns-in-Damaged-clause-errors c =
    rw (c.in-Damaged.is, sym c.self.view_is) c.write_line.ensures
