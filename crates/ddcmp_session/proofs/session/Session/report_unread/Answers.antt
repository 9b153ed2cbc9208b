use Rattle.std.proofs.Common.{ap, subst}
use Rattle.ddcmp_session.specs.EndText.{unread_text}
use Rattle.ddcmp_session.specs.Logged.{LoggedSession}
use Rattle.ddcmp_streams.specs.Errors.{HasLine}
use Rattle.ddcmp_streams.specs.declared.errors.TheConstants.{SHORT_LINE}
use Rattle.ddcmp_session.proofs.session.Session.report_unread.Goals as goal

pub returns-clause-errors : goal.returns-clause-errors
returns-clause-errors c = wrote
  where
    wrote : HasLine SHORT_LINE unread_text c.args.self.now.log.errors c.write_line.new.self
    wrote =
        subst (λ old. HasLine SHORT_LINE unread_text old c.write_line.new.self)
        (ap (λ (s : LoggedSession). s.log.errors) c.self.view_is) c.write_line.ensures
