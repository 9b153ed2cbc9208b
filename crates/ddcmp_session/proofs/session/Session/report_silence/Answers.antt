use Rattle.std.proofs.Common.{rules, ap, sym, subst, ◌≡◌, MatchBool, true}
use Rattle.ddcmp_session.specs.Reports.{silence_text}
use Rattle.ddcmp_session.specs.Timing.{is_first_silence}
use Rattle.ddcmp_session.specs.Logged.{LoggedSession}
use Rattle.ddcmp_streams.specs.Errors.{HasLine}
use Rattle.ddcmp_streams.specs.declared.errors.TheConstants.{SHORT_LINE}
use Rattle.ddcmp_session.proofs.session.Session.report_silence.Goals as goal

pub returns-then-is_first-clause-errors : goal.returns-then-is_first-clause-errors
returns-then-is_first-clause-errors c =
    subst
    (λ b. MatchBool b
    (HasLine SHORT_LINE silence_text c.args.self.now.log.errors c.write_line.new.self)
    (c.write_line.new.self ≡ c.args.self.now.log.errors)) (sym is) wrote
  where
    is : is_first_silence c.args.has_expired c.args.self.now.state ≡ true
    is = search rules

    wrote : HasLine SHORT_LINE silence_text c.args.self.now.log.errors c.write_line.new.self
    wrote =
        subst (λ old. HasLine SHORT_LINE silence_text old c.write_line.new.self)
        (ap (λ (s : LoggedSession). s.log.errors) c.self-2.view_is) c.write_line.ensures
