use Rattle.std.proofs.Common.{sym}
use Rattle.ddcmp_session.proofs.session.Session.write_end.Goals as goal

pub returns-in-Digits-clause-lines : goal.returns-in-Digits-clause-lines
returns-in-Digits-clause-lines c = λ is.
    rw (sym c.self.view_is) c.write_end.ensures
