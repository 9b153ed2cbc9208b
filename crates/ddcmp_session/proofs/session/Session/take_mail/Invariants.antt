use Rattle.std.proofs.Common.{◌≡◌}
use Rattle.ddcmp_session.specs.Session.{after_takes}
use Rattle.ddcmp_session.proofs.session.Session.take_mail.Given as goal

abbrev pub invariant-loop-message : goal.invariant-loop-message
invariant-loop-message l = record {
  state : l.self.state ≡ record l.initial.self.state {
    link = after_takes l._message l.initial.self.state.link;
  };
  log : l.self.log ≡ l.initial.self.log;
}
