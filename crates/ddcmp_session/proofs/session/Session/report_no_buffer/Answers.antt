use Rattle.std.proofs.Common.{ap, sym, subst, ◌≡◌, MatchBool, true}
use Rattle.ddcmp_session.specs.Reports.{no_buffer_text}
use Rattle.ddcmp_session.specs.Logged.{LoggedSession}
use Rattle.ddcmp_streams.specs.Errors.{HasLine}
use Rattle.ddcmp_streams.specs.declared.errors.TheConstants.{SHORT_LINE}
use Rattle.ddcmp_session.proofs.session.Session.report_no_buffer.Goals as goal

pub returns-then-is_due-clause-errors : goal.returns-then-is_due-clause-errors
returns-then-is_due-clause-errors c =
    subst
    (λ b. MatchBool b
    (HasLine SHORT_LINE no_buffer_text c.args.self.now.log.errors c.write_line.new.self)
    (c.write_line.new.self ≡ c.args.self.now.log.errors)) (sym is) wrote
  where
    is : c.args.is_due ≡ true
    is = c.if-is_due.true

    wrote : HasLine SHORT_LINE no_buffer_text c.args.self.now.log.errors c.write_line.new.self
    wrote =
        subst (λ old. HasLine SHORT_LINE no_buffer_text old c.write_line.new.self)
        (ap (λ (s : LoggedSession). s.log.errors) c.self.view_is) c.write_line.ensures
