use Rattle.std.proofs.Common.{◌∙◌, ap, sym, refl, arith}
use Rattle.ddcmp_pair.specs.declared.event.Event.{Event}
use Rattle.ddcmp_pair.specs.Run.{after_event}
use Rattle.ddcmp_pair.proofs.Runs.{run-next, run-none}
use Rattle.ddcmp_pair.proofs.runner.play.Goals as goal

pub loop-done-init : goal.loop-done-init
loop-done-init c = sym (run-none _)

pub loop-done-preserved : goal.loop-done-preserved
loop-done-preserved c =
    c.in-Ok.ensures.state refl
    ∙ ap (λ (e : Event). after_event e c.loop-done.pair) c.index-events-done.is
    ∙ ap (after_event _) c.loop-done.invariant
    ∙ sym (run-next c.args.events.now c.loop-done.done c.index-events-done.result _ (omega arith))
