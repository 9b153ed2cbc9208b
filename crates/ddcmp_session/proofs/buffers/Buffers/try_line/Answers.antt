use Rattle.std.proofs.Common.{ap, refl, Ok}
use Rattle.ddcmp_session.proofs.LinesGo.{failed, none-over, not-open, over-next, over-then}
use Rattle.ddcmp_session.proofs.LinesGo.{ready-by, refused}
use Rattle.ddcmp_session.proofs.buffers.Buffers.try_line.Goals as goal

pub returns-then-now-opens_at-clause-over : goal.returns-then-now-opens_at-clause-over
returns-then-now-opens_at-clause-over g c = none-over refl refl

pub returns-in-Ok-true-clause-over : goal.returns-in-Ok-true-clause-over
returns-in-Ok-true-clause-over g c =
    over-next (none-over c.open_line.ensures.session refl) (ready-by c.open_line.ensures.session)
    (c.begin_line.ensures.over (g.D.Devices.traffic c.args.devices.now)
    (g.D.Devices.traffic c.open_line.new.self)
    (c.in-Ok-true.ensures.opened (ap (λ b. Ok b) c.in-Ok-true.field-0-test)))

pub returns-in-Ok-true-2-clause-over : goal.returns-in-Ok-true-2-clause-over
returns-in-Ok-true-2-clause-over g c =
    over-next (none-over c.open_line.ensures.session refl) (ready-by c.open_line.ensures.session)
    (c.begin_line.ensures.over (g.D.Devices.traffic c.args.devices.now)
    (g.D.Devices.traffic c.open_line.new.self)
    (c.in-Ok-true.ensures.opened (ap (λ b. Ok b) c.in-Ok-true.field-0-test)))

pub returns-in-Ok-false-clause-over : goal.returns-in-Ok-false-clause-over
returns-in-Ok-false-clause-over g c =
    none-over c.open_line.ensures.session
    (c.in-Ok-false.ensures.not_opened (not-open c.in-Ok-false.field-0-test))

pub returns-in-Err-clause-over : goal.returns-in-Err-clause-over
returns-in-Err-clause-over g c =
    none-over c.open_line.ensures.session (c.in-Err.ensures.not_opened refused)

pub returns-in-Err-2-clause-over : goal.returns-in-Err-2-clause-over
returns-in-Err-2-clause-over g c =
    over-then (none-over c.open_line.ensures.session (c.in-Err-2.ensures.not_opened refused))
    (over-then
    (failed c.args.now c.open_line.new.session.state c.open_failed-seconds.new.self.state
    c.open_failed-seconds.ensures.state)
    (none-over c.report_retry.ensures.session c.report_retry.ensures.devices))

pub returns-then-now-opens_at-clause-ready : goal.returns-then-now-opens_at-clause-ready
returns-then-now-opens_at-clause-ready g c = λ e r. r

pub returns-in-Ok-false-clause-ready : goal.returns-in-Ok-false-clause-ready
returns-in-Ok-false-clause-ready g c = λ e r. ready-by c.open_line.ensures.session r

pub returns-in-Err-2-clause-ready : goal.returns-in-Err-2-clause-ready
returns-in-Err-2-clause-ready g c = λ e r.
    ready-by c.report_retry.ensures.session
    (ready-by c.open_failed-seconds.ensures.state (ready-by c.open_line.ensures.session r))

pub returns-then-is_halted-clause-over : goal.returns-then-is_halted-clause-over
returns-then-is_halted-clause-over g c = none-over refl refl
