use Rattle.std.proofs.Common.{◌∙◌, ap, inl, inr, refl, sym, Ok}
use Rattle.ddcmp_session.proofs.LinesGo.{none-over, over-next, over-then, reports-later}
use Rattle.ddcmp_session.proofs.LinesGo.{same-err, same-fault}
use Rattle.ddcmp_session.proofs.StopLaws.{line-later}
use Rattle.ddcmp_session.proofs.buffers.Buffers.run_each.Goals as goal

pub loop-line-init : goal.loop-line-init
loop-line-init g c = (none-over refl refl, λ ready. ready)

pub loop-line-preserved : goal.loop-line-preserved
loop-line-preserved g c = (
  over-then
      (over-then (over-next c.loop-line.invariant.0 c.loop-line.invariant.1 c.run_one.ensures.over)
      (none-over refl c.close_left.ensures)) (c.leave.ensures.over _),
  λ r. c.leave.ensures.ready c.in-Ok.is,
)

pub returns-in-Err-leave-clause-over : goal.returns-in-Err-leave-clause-over
returns-in-Err-leave-clause-over g c =
    over-then
    (over-then (over-next c.loop-line.invariant.0 c.loop-line.invariant.1 c.run_one.ensures.over)
    (none-over refl c.close_left.ensures)) (c.leave.ensures.over _)

pub returns-in-Err-leave-clause-reports : goal.returns-in-Err-leave-clause-reports
returns-in-Err-leave-clause-reports g c = λ fault untimed e.
    reports-later c.loop-line.invariant.0
    (reports-later c.run_one.ensures.over
    (reports-later (none-over refl c.close_left.ensures)
    (c.in-Err-leave.ensures.reports _ fault untimed (same-fault e))))

pub returns-in-Ok-None-clause-over : goal.returns-in-Ok-None-clause-over
returns-in-Ok-None-clause-over g c =
    over-next c.loop-line.invariant.0 c.loop-line.invariant.1 c.run_one.ensures.over

pub returns-clause-over : goal.returns-clause-over
returns-clause-over g c = over-then c.loop-line.invariant.0 (c.pass_run.ensures.over _ _)

pub returns-in-Ok-Some-2-clause-over : goal.returns-in-Ok-Some-2-clause-over
returns-in-Ok-Some-2-clause-over g c =
    over-next c.loop-line.invariant.0 c.loop-line.invariant.1 c.run_one.ensures.over

pub returns-in-Err-clause-over : goal.returns-in-Err-clause-over
returns-in-Err-clause-over g c =
    over-next c.loop-line.invariant.0 c.loop-line.invariant.1 c.run_one.ensures.over

pub returns-in-Err-clause-reports : goal.returns-in-Err-clause-reports
returns-in-Err-clause-reports g c = λ fault untimed e.
    reports-later c.loop-line.invariant.0
    (c.in-Err.ensures.reports fault untimed (same-err e))

pub returns-in-Err-clause-time : goal.returns-in-Err-clause-time
returns-in-Err-clause-time g c = λ e. c.in-Err.ensures.time (same-err e)

pub returns-in-Err-leave-clause-time : goal.returns-in-Err-leave-clause-time
returns-in-Err-leave-clause-time g c = λ e. c.in-Err-leave.ensures.time (same-fault e)

pub returns-in-Ok-Some-2-clause-left : goal.returns-in-Ok-Some-2-clause-left
returns-in-Ok-Some-2-clause-left g c = λ e.
    inr (
      c.in-Ok-Some.how,
      sym c.reopens.ensures ∙ c.if-reopens.false,
      line-later _ _ _ _ _ _ _ c.in-Ok-Some.how c.run_one.new.session.state c.loop-line.invariant.0
          (c.run_one.ensures.gone c.in-Ok-Some.how
          (c.in-Ok-Some.is ∙ ap (λ o. Ok o) c.in-Ok-Some.field-0-is)),
    )

pub returns-in-Err-clause-left : goal.returns-in-Err-clause-left
returns-in-Err-clause-left g c = λ e. inl (c.in-Err.ensures.left (same-err e))

pub returns-in-Err-clause-shut : goal.returns-in-Err-clause-shut
returns-in-Err-clause-shut g c = λ refusal e.
    c.in-Err.ensures.shut refusal (same-err e)
