use Rattle.std.proofs.Common.{rules, ap, subst, inl}
use Rattle.ddcmp_session.specs.EndText.{echo_text}
use Rattle.ddcmp_session.specs.Logged.{SeemsToEcho}
use Rattle.ddcmp_session.specs.Logged.{LoggedSession}
use Rattle.ddcmp_streams.specs.Errors.{HasLine}
use Rattle.ddcmp_streams.specs.declared.errors.TheConstants.{SHORT_LINE}
use Rattle.ddcmp_session.proofs.session.Session.report_echo.Goals as goal

pub returns-then-is_echo-clause-errors : goal.returns-then-is_echo-clause-errors
returns-then-is_echo-clause-errors c = inl (seems, wrote)
  where
    seems : SeemsToEcho c.args.self.now.state c.args.self.now.log.echo
    seems = search rules

    wrote : HasLine SHORT_LINE echo_text c.args.self.now.log.errors c.write_line.new.self
    wrote =
        subst (λ old. HasLine SHORT_LINE echo_text old c.write_line.new.self)
        (ap (λ (s : LoggedSession). s.log.errors) c.self.view_is) c.write_line.ensures
