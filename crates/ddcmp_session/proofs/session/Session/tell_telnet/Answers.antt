use Rattle.std.proofs.Common.{rules, ap, sym, subst, ◌≡◌, MatchBool, true}
use Rattle.ddcmp_session.specs.Reports.{telnet_text}
use Rattle.ddcmp_session.specs.Session.{is_telnet}
use Rattle.ddcmp_session.specs.Logged.{LoggedSession}
use Rattle.ddcmp_streams.specs.Errors.{HasLine}
use Rattle.ddcmp_streams.specs.declared.errors.TheConstants.{SHORT_LINE}
use Rattle.ddcmp_session.proofs.session.Session.tell_telnet.Goals as goal

pub returns-then-begins_telnet-clause-errors : goal.returns-then-begins_telnet-clause-errors
returns-then-begins_telnet-clause-errors c =
    subst
    (λ b. MatchBool b
    (HasLine SHORT_LINE telnet_text c.args.self.now.log.errors c.write_line.new.self)
    (c.write_line.new.self ≡ c.args.self.now.log.errors)) (sym is) wrote
  where
    is : is_telnet c.args.bytes.now c.args.self.now.state ≡ true
    is = search rules

    wrote : HasLine SHORT_LINE telnet_text c.args.self.now.log.errors c.write_line.new.self
    wrote =
        subst (λ old. HasLine SHORT_LINE telnet_text old c.write_line.new.self)
        (ap (λ (s : LoggedSession). s.log.errors) c.self.view_is) c.write_line.ensures
