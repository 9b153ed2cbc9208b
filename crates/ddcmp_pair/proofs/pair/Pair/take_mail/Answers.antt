use Rattle.std.proofs.Common.{◌∙◌, ap, sym, refl, arith, length, replicate}
use Rattle.std.proofs.lemmas.List.{replicate-append-replicate}
use Rattle.ddcmp_pair.specs.declared.event.Event.TheVariants.{Take}
use Rattle.ddcmp_pair.specs.Run.{at, after_event}
use Rattle.ddcmp_pair.proofs.Runs.{run-again, run-none, wanted-again, on-err}
use Rattle.ddcmp_pair.proofs.Watching.{saw-none, saw-as, saw-event}
use Rattle.ddcmp_pair.proofs.pair.Pair.take_mail.Goals as goal

pub loop-taken-init : goal.loop-taken-init
loop-taken-init g c = record {
  state = sym (run-none c.args.self.now);
  count = c.waiting-taken-end.ensures ∙ ap (λ k. length k.station.inbox) c.station.ensures.core;
  seen = saw-none (g.W.Watch.seen c.args.watch.now) c.args.self.now;
}

pub returns-in_err-_message-clause-memory : goal.returns-in_err-_message-clause-memory
returns-in_err-_message-clause-memory g c =
    let i = c.loop-taken.invariant in
    let count = i.count in
    on-err _
    (wanted-again (length (at c.args.end c.args.self.now).core.station.inbox)
    c.loop-taken._taken (Take c.args.end) c.args.self.now c.loop-taken.self c.step_watched.new.self
    (omega (arith, count)) i.state c.in_err-_message.ensures.memory c.in_err-_message.ensures.asks)

pub loop-taken-preserved : goal.loop-taken-preserved
loop-taken-preserved g c =
    let i = c.loop-taken.invariant in
    let e = Take c.args.end in
    record {
      state =
          c.in_ok-_message.ensures.state refl ∙ ap (after_event e) i.state
          ∙ sym (run-again c.loop-taken._taken e c.args.self.now);
      count = i.count;
      seen =
          saw-as _ _ _ _ c.args.self.now (replicate-append-replicate c.loop-taken._taken 1 e)
          (saw-event _ _ _ (replicate c.loop-taken._taken e) e c.args.self.now c.loop-taken.self
          i.seen i.state (c.in_ok-_message.ensures.seen refl));
    }
