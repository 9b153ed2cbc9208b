use Rattle.std.proofs.Common.{◌∙◌, ap, sym, subst, refl, true, false}
use Rattle.ddcmp_streams.specs.Options.{takes_at_once}
use Rattle.ddcmp_session.specs.Logged.{LoggedSession}
use Rattle.ddcmp_session.specs.Session.{SessionView, form_of, with_taken}
use Rattle.ddcmp_session.specs.Text.{Wrote, mail_text}
use Rattle.ddcmp_session.specs.contracts.session.Session as session
use Rattle.ddcmp_session.proofs.DeliverLaws.{writes-settled}
use Rattle.ddcmp_session.proofs.TakenLaws.{after-queueing}
use Rattle.ddcmp_session.proofs.session.Session.deliver.Goals as goal

pub returns-then-takes_at_once-clause-wrote : goal.returns-then-takes_at_once-clause-wrote
returns-then-takes_at_once-clause-wrote c = λ e.
    let w = c.queue_mail.ensures.wrote in
    let output = ap (λ (s : SessionView). s.output) c.take_mail-then-takes_at_once.ensures.state in
    rw (sym c.self.view_is) (
      w.0,
      w.1,
      writes-settled _ c.self.inside.output c.settle.new.self c.take_mail-then-takes_at_once.new.self.state.output
          c.settle.ensures.waiting c.settle.ensures.more c.settle.ensures.size
          c.settle.ensures.cut
          (subst (Wrote (mail_text (form_of c.self.inside.messages) w.0) c.settle.new.self)
          (sym output) w.2),
    )

pub returns-then-takes_at_once-clause-stays : goal.returns-then-takes_at_once-clause-stays
returns-then-takes_at_once-clause-stays c =
    let old = (session.the_view c.self.inside).state in
    let mid = c.queue_mail.new.self.state in
    rw (sym c.self.view_is)
    (after-queueing true old mid c.take_mail-then-takes_at_once.new.self.state
    (sym c.if-takes_at_once.true ∙ c.takes_at_once.ensures
    ∙ ap (λ (s : LoggedSession). takes_at_once s.state.options) c.self-2.view_is
    ∙ ap (λ (s : SessionView). takes_at_once s.options) c.queue_mail.ensures.stays)
    c.queue_mail.ensures.stays
    (c.take_mail-then-takes_at_once.ensures.state
    ∙ ap (λ (s : LoggedSession). with_taken s.state.unwritten mid) c.take_mail.view_is))

pub returns-else-takes_at_once-clause-wrote : goal.returns-else-takes_at_once-clause-wrote
returns-else-takes_at_once-clause-wrote c = λ e.
    let w = c.queue_mail.ensures.wrote in
    rw (sym c.self.view_is) (
      w.0,
      w.1,
      writes-settled _ c.self.inside.output c.settle.new.self c.queue_mail.new.self.state.output
          c.settle.ensures.waiting c.settle.ensures.more c.settle.ensures.size
          c.settle.ensures.cut w.2,
    )

pub returns-else-takes_at_once-clause-stays : goal.returns-else-takes_at_once-clause-stays
returns-else-takes_at_once-clause-stays c =
    let old = (session.the_view c.self.inside).state in
    let mid = c.queue_mail.new.self.state in
    rw (sym c.self.view_is)
    (after-queueing false old mid mid
    (sym c.if-takes_at_once.false ∙ c.takes_at_once.ensures
    ∙ ap (λ (s : LoggedSession). takes_at_once s.state.options) c.self-2.view_is
    ∙ ap (λ (s : SessionView). takes_at_once s.options) c.queue_mail.ensures.stays)
    c.queue_mail.ensures.stays refl)
