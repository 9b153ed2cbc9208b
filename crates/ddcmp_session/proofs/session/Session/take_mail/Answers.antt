use Rattle.std.proofs.Common.{◌∙◌, ap, sym, refl}
use Rattle.ddcmp_station.specs.Linking.{after_taking}
use Rattle.ddcmp_session.specs.Session.{SessionView}
use Rattle.ddcmp_session.proofs.TakenLaws.{takes-none, takes-one-more}
use Rattle.ddcmp_session.proofs.session.Session.take_mail.Goals as goal

pub loop-message-init : goal.loop-message-init
loop-message-init c = record {
  state = λ i. record c.args.self.now.state { link = sym (takes-none c.args.self.now.state.link) i };
  log = refl;
}

pub loop-message-preserved : goal.loop-message-preserved
loop-message-preserved c = record {
  state =
      c.take_one.ensures.state
      ∙ ap (λ (s : SessionView). record s { link = after_taking s.link })
      c.loop-message.invariant.state
      ∙ ap (λ d. record c.args.self.now.state { link = d })
      (sym (takes-one-more c.loop-message._message c.args.self.now.state.link));
  log = c.take_one.ensures.log ∙ c.loop-message.invariant.log;
}
