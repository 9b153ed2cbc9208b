use Rattle.std.proofs.Common.{◌∙◌, ◌<◌, ◌≤◌, [], ap, sym, subst, take, length, arith}
use Rattle.std.specs.Prelude.{slice_index_or}
use Rattle.std.proofs.lemmas.List.{length-take, with_items_is}
use Rattle.ddcmp_session.specs.Logged.{LoggedSession}
use Rattle.ddcmp_session.specs.Session.{form_of, room_for_mail}
use Rattle.ddcmp_session.specs.Text.{Puts, mail_text}
use Rattle.ddcmp_session.proofs.DeliverLaws.{queues}
use Rattle.ddcmp_session.proofs.TakenLaws.{at-front}
use Rattle.ddcmp_session.proofs.TextLaws.{mail-short}
use Rattle.ddcmp_session.proofs.session.Session.queue_mail.Goals as goal

pub overflow_add-self : goal.overflow_add-self
overflow_add-self c =
    let few = subst (λ (s : LoggedSession). s.state.unwritten < 255) (sym c.self.view_is)
    c.requires.few in
    omega (arith, few)

pub returns-clause-wrote : goal.returns-clause-wrote
returns-clause-wrote c =
    let items =
    with_items_is c.self.inside.mail c.waiting_at-n.new.out
    (c.waiting_at-n.auto.out ∙ c.deref_mut.ensures.len) in
    let there =
    subst (λ (s : LoggedSession).
    s.state.unwritten < length s.state.link.station.core.station.inbox) (sym c.self.view_is)
    c.requires.there in
    let room =
    subst (λ (s : LoggedSession). room_for_mail s.state ≤ s.state.output.room)
    (sym c.self.view_is) c.requires.room in
    let inbox = c.self.inside.link.station.core.station.inbox in
    rw (sym c.self.view_is) (
      slice_index_or inbox c.self.inside.unwritten [],
      at-front inbox c.self.inside.unwritten there,
      queues (form_of c.self.inside.messages) (slice_index_or inbox c.self.inside.unwritten [])
          c.waiting_at-n.result _ c.deref.result.now c.self.inside.output c.write_mail.new.out
          c.waiting_at-n.ensures.length
          (c.deref.ensures.value ∙ items ∙ c.waiting_at-n.ensures.out)
          (omega (
            arith,
            mail-short (form_of c.self.inside.messages)
                (take c.waiting_at-n.result c.deref.result.now),
            length-take c.waiting_at-n.result c.deref.result.now,
            ap length (c.deref.ensures.value ∙ items),
            c.waiting_at-n.auto.out,
            c.deref_mut.ensures.len,
            c.self.invariant.1,
            room,
          ))
          (subst (λ form. Puts (mail_text form (take c.waiting_at-n.result c.deref.result.now))
          c.self.inside.output c.write_mail.new.out) c.self.invariant.0 c.write_mail.ensures.puts),
    )
