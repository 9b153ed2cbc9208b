use Rattle.std.proofs.Common.{◌≡◌, refl, Result, Err}
use Rattle.ddcmp_session.specs.declared.devices.DeviceFault.{DeviceFault}
use Rattle.ddcmp_session.proofs.LinesGo.{none-over, over-then, paused, ready-by}
use Rattle.ddcmp_session.proofs.buffers.lines.leave.Goals as goal

pub returns-in-Some-clause-over : goal.returns-in-Some-clause-over
returns-in-Some-clause-over g c = λ held.
    over-then (c.leave_line.ensures.over held)
    (over-then (none-over c.read_clocks-now.ensures.state c.read_clocks-now.ensures.devices)
    (over-then
    (paused c.read_clocks-now.result c.read_clocks-now.new.session.state
    c.pause_after_line.new.self.state
    c.pause_after_line.ensures.state) (none-over c.report_pause.ensures.state refl)))

pub returns-in_default-clause-over : goal.returns-in_default-clause-over
returns-in_default-clause-over g c = λ held.
    over-then (c.leave_line.ensures.over held)
    (over-then (none-over c.read_clocks-now.ensures.state c.read_clocks-now.ensures.devices)
    (paused c.read_clocks-now.result c.read_clocks-now.new.session.state
    c.pause_after_line.new.self.state
    c.pause_after_line.ensures.state))

pub returns-in-Err-clause-over : goal.returns-in-Err-clause-over
returns-in-Err-clause-over g c = λ held.
    over-then (c.leave_line.ensures.over held) (c.note_time.ensures.over held _)

same : {f f' : DeviceFault} → ◌≡◌ {A = Result (Unit {0}) DeviceFault} (Err f) (Err f') → f ≡ f'
same e = cc

pub returns-in-Err-clause-time : goal.returns-in-Err-clause-time
returns-in-Err-clause-time g c = λ e. c.note_time.ensures.time (same e)

pub returns-in-Some-clause-ready : goal.returns-in-Some-clause-ready
returns-in-Some-clause-ready g c = λ e.
    ready-by c.report_pause.ensures.state
    (ready-by c.pause_after_line.ensures.state
    (ready-by c.read_clocks-now.ensures.state (c.leave_line.ensures.ready c.in-Ok.is)))

pub returns-in_default-clause-ready : goal.returns-in_default-clause-ready
returns-in_default-clause-ready g c = λ e.
    ready-by c.pause_after_line.ensures.state
    (ready-by c.read_clocks-now.ensures.state (c.leave_line.ensures.ready c.in-Ok.is))
