use Rattle.std.proofs.Common.{◌∙◌, ap, sym, subst, refl}
use Rattle.std.specs.Prelude.{◌≡◌, [], ◌∷◌, true, false, is_some}
use Rattle.ddcmp_io.specs.declared.carrier.End.{End}
use Rattle.ddcmp_pair.specs.declared.event.Event.TheVariants as event
use Rattle.ddcmp_pair.specs.Run.{after_event, asks_memory, run}
use Rattle.ddcmp_pair.specs.Settle.{carried, crossing, mail_events, WantsMemory}
use Rattle.ddcmp_pair.proofs.Runs.{on-err, polled-some, polled-none, crossing-writes}
use Rattle.ddcmp_pair.proofs.Runs.{crossing-idles, run-append, run-one, run-carried, crossing-polls}
use Rattle.ddcmp_pair.proofs.Runs.{wanted-next, wanted-second, wanted-later}
use Rattle.ddcmp_io.specs.Device.{Logs}
use Rattle.ddcmp_io.specs.Ends.{other}
use Rattle.ddcmp_pair.specs.Steps.{steps_of}
use Rattle.ddcmp_pair.proofs.Watching.{saw-as, saw-next, saw-carried}
use Rattle.ddcmp_pair.proofs.pair.Pair.cross.Goals as goal

pub returns-in_err-bytes-clause-memory : goal.returns-in_err-bytes-clause-memory
returns-in_err-bytes-clause-memory g c =
    let polls = crossing-polls c.args.from c.args.self.now in
    on-err _
    (wanted-next (event.Poll c.args.from)
    polls.0 _ c.args.self.now c.step_watched.new.self polls.1 c.in_err-bytes.ensures.memory
    c.in_err-bytes.ensures.asks)

pub returns-in_default : goal.returns-in_default
returns-in_default g c =
    let none =
    polled-none c.args.from c.args.self.now
    (λ bytes e. c.in_default.not-Wrote bytes (c.in_ok-bytes.ensures.reply ∙ e)) in
    record {
      state =
          λ ok. c.in_ok-bytes.ensures.state refl
          ∙ sym (run-one (event.Poll c.args.from) c.args.self.now)
          ∙ ap (λ t. run t c.args.self.now) (sym (crossing-idles c.args.from c.args.self.now none));
      wrote = sym (ap is_some none);
      seen =
          λ ok. saw-as _ _ _ _ c.args.self.now
          (sym (crossing-idles c.args.from c.args.self.now none)) (c.in_ok-bytes.ensures.seen refl);
      memory = tt;
    }

pub returns-in_err-_notices-clause-memory : goal.returns-in_err-_notices-clause-memory
returns-in_err-_notices-clause-memory g c =
    let p = c.args.self.now in
    let from = c.args.from in
    let bytes = c.in-Wrote.bytes in
    let some = polled-some from p bytes (sym c.in_ok-bytes.ensures.reply ∙ c.in-Wrote.is) in
    let asks =
    subst
    (λ (e : End). asks_memory (event.Arrive e bytes) c.step_watched.new.self ≡ false → false ≡ true)
    c.other-to.ensures c.in_err-_notices.ensures.asks in
    on-err _
    (wanted-second (event.Poll from) (event.Arrive (other from) bytes) _ (crossing from p)
    p c.step_watched.new.self c.step_watched-2.new.self
    (sym (crossing-writes from p bytes some)) (c.in_ok-bytes.ensures.state refl)
    c.in_err-_notices.ensures.memory asks)

pub returns-in_err-take_mail-clause-memory : goal.returns-in_err-take_mail-clause-memory
returns-in_err-take_mail-clause-memory g c =
    let p = c.args.self.now in
    let from = c.args.from in
    let bytes = c.in-Wrote.bytes in
    let some = polled-some from p bytes (sym c.in_ok-bytes.ensures.reply ∙ c.in-Wrote.is) in
    let arrived =
    c.in_ok-_notices.ensures.state refl
    ∙ ap (λ (e : End). after_event (event.Arrive e bytes) c.step_watched.new.self)
    c.other-to.ensures in
    let carried =
    run-carried from bytes p c.step_watched.new.self c.step_watched-2.new.self
    (c.in_ok-bytes.ensures.state refl) arrived in
    let mail =
    subst
    (λ (e : End). WantsMemory (mail_events e c.step_watched-2.new.self)
    c.step_watched-2.new.self c.take_mail.new.self)
    c.other-to.ensures c.in_err-take_mail.ensures.memory in
    on-err _
    (subst (λ t. WantsMemory t p c.take_mail.new.self) (sym (crossing-writes from p bytes some))
    (wanted-later _ _ p c.take_mail.new.self
    (subst (λ q. WantsMemory (mail_events (other from) q) q c.take_mail.new.self)
    carried mail)))

pub returns-clause-state : goal.returns-clause-state
returns-clause-state g c = λ ok.
    let p = c.args.self.now in
    let from = c.args.from in
    let bytes = c.in-Wrote.bytes in
    let some = polled-some from p bytes (sym c.in_ok-bytes.ensures.reply ∙ c.in-Wrote.is) in
    let arrived =
    c.in_ok-_notices.ensures.state refl
    ∙ ap (λ (e : End). after_event (event.Arrive e bytes) c.step_watched.new.self)
    c.other-to.ensures in
    let through =
    run-carried from bytes p c.step_watched.new.self c.step_watched-2.new.self
    (c.in_ok-bytes.ensures.state refl) arrived in
    c.in_ok-take_mail.ensures.state refl
    ∙ ap (λ (e : End). run (mail_events e c.step_watched-2.new.self) c.step_watched-2.new.self)
    c.other-to.ensures
    ∙ ap (λ q. run (mail_events (other from) q) q) through
    ∙ sym (run-append (carried from bytes) _ p)
    ∙ ap (λ t. run t p) (sym (crossing-writes from p bytes some))

pub returns-clause-wrote : goal.returns-clause-wrote
returns-clause-wrote g c =
    sym
    (ap is_some
    (polled-some c.args.from c.args.self.now c.in-Wrote.bytes
    (sym c.in_ok-bytes.ensures.reply ∙ c.in-Wrote.is)))

pub returns-clause-seen : goal.returns-clause-seen
returns-clause-seen g c = λ ok.
    let p = c.args.self.now in
    let from = c.args.from in
    let bytes = c.in-Wrote.bytes in
    let some = polled-some from p bytes (sym c.in_ok-bytes.ensures.reply ∙ c.in-Wrote.is) in
    let arrived =
    c.in_ok-_notices.ensures.state refl
    ∙ ap (λ (e : End). after_event (event.Arrive e bytes) c.step_watched.new.self)
    c.other-to.ensures in
    let through =
    run-carried from bytes p c.step_watched.new.self c.step_watched-2.new.self
    (c.in_ok-bytes.ensures.state refl) arrived in
    let log = g.W.Watch.seen in
    let first = log c.step_watched.new.watch in
    let second = log c.step_watched-2.new.watch in
    let last = log c.take_mail.new.watch in
    let there =
    subst
    (λ (e : End). Logs first second
    (steps_of (event.Arrive e bytes ∷ []) c.step_watched.new.self))
    c.other-to.ensures (c.in_ok-_notices.ensures.seen refl) in
    let mail =
    subst
    (λ (e : End). Logs second last
    (steps_of (mail_events e c.step_watched-2.new.self) c.step_watched-2.new.self))
    c.other-to.ensures (c.in_ok-take_mail.ensures.seen refl) in
    saw-as _ _ _ _ p (sym (crossing-writes from p bytes some))
    (saw-next _ second last (carried from bytes) (λ q. mail_events (other from) q) p
    c.step_watched-2.new.self
    (saw-carried _ first second from bytes p c.step_watched.new.self
    (c.in_ok-bytes.ensures.seen refl) (c.in_ok-bytes.ensures.state refl) there)
    through mail)
