use Rattle.std.proofs.Common.{◌≡◌, ◌∙◌, ap, refl, subst, Result, Ok, Err}
use Rattle.ddcmp_session.specs.declared.buffers.lines.Stop.TheVariants.{the_data, Device}
use Rattle.ddcmp_session.specs.declared.devices.DeviceFault.{DeviceFault}
use Rattle.ddcmp_session.specs.declared.devices.DeviceFault.TheVariants.{Input}
use Rattle.ddcmp_session.specs.Devices.{Reports}
use Rattle.ddcmp_session.proofs.GoingLaws.{reported, waited}
use Rattle.ddcmp_session.proofs.LinesGo.{goes-over, none-over, over-then, passed-now, passes-then}
use Rattle.ddcmp_session.proofs.LinesGo.{ready-by, reports-later, reports-over, same-fault}
use Rattle.ddcmp_session.proofs.buffers.Buffers.begin.Goals as goal

pub loop-try-init : goal.loop-try-init
loop-try-init g c = (none-over refl refl, λ r. r)

pub returns-in-Err-clause-over : goal.returns-in-Err-clause-over
returns-in-Err-clause-over g c =
    over-then c.loop-try.invariant.0 (goes-over c.look_at_input.ensures.on)

pub returns-in-Err-clause-reports : goal.returns-in-Err-clause-reports
returns-in-Err-clause-reports g c = λ fault untimed e.
    reports-later c.loop-try.invariant.0
    (reports-over (none-over refl refl) (c.in-Err.ensures.reports fault (same-fault e)))

pub returns-in-Some-Time-clause-over : goal.returns-in-Some-Time-clause-over
returns-in-Some-Time-clause-over g c =
    over-then (over-then c.loop-try.invariant.0 (goes-over c.look_at_input.ensures.on))
    (over-then (none-over c.read_clocks-now.ensures.state c.read_clocks-now.ensures.devices)
    (passed-now c.read_clocks-now.result c.read_clocks-now.new.session.state
    c.pass_time.new.self.state
    c.pass_time.ensures.state))

pub returns-in-Some-Done-clause-over : goal.returns-in-Some-Done-clause-over
returns-in-Some-Done-clause-over g c =
    over-then (over-then c.loop-try.invariant.0 (goes-over c.look_at_input.ensures.on))
    (over-then (none-over c.read_clocks-now.ensures.state c.read_clocks-now.ensures.devices)
    (passed-now c.read_clocks-now.result c.read_clocks-now.new.session.state
    c.pass_time.new.self.state
    c.pass_time.ensures.state))

pub returns-in-Ok-true-clause-over : goal.returns-in-Ok-true-clause-over
returns-in-Ok-true-clause-over g c =
    passes-then c.read_clocks-now.result c.read_clocks-now.new.session.state
    c.pass_time.new.self.state
    (over-then (over-then c.loop-try.invariant.0 (goes-over c.look_at_input.ensures.on))
    (none-over c.read_clocks-now.ensures.state refl))
    (λ r. ready-by c.read_clocks-now.ensures.state
    (c.look_at_input.ensures.ready (c.loop-try.invariant.1 r)))
    c.read_clocks-now.ensures.devices
    c.pass_time.ensures.state c.try_line.ensures.over

pub returns-in-Err-try_line-clause-over : goal.returns-in-Err-try_line-clause-over
returns-in-Err-try_line-clause-over g c =
    passes-then c.read_clocks-now.result c.read_clocks-now.new.session.state
    c.pass_time.new.self.state
    (over-then (over-then c.loop-try.invariant.0 (goes-over c.look_at_input.ensures.on))
    (none-over c.read_clocks-now.ensures.state refl))
    (λ r. ready-by c.read_clocks-now.ensures.state
    (c.look_at_input.ensures.ready (c.loop-try.invariant.1 r)))
    c.read_clocks-now.ensures.devices
    c.pass_time.ensures.state c.try_line.ensures.over

pub returns-then-not-wait_between_lines-clause-over :
    goal.returns-then-not-wait_between_lines-clause-over
returns-then-not-wait_between_lines-clause-over g c =
    over-then
    (over-then
    (passes-then c.read_clocks-now.result c.read_clocks-now.new.session.state
    c.pass_time.new.self.state
    (over-then (over-then c.loop-try.invariant.0 (goes-over c.look_at_input.ensures.on))
    (none-over c.read_clocks-now.ensures.state refl))
    (λ r. ready-by c.read_clocks-now.ensures.state
    (c.look_at_input.ensures.ready (c.loop-try.invariant.1 r)))
    c.read_clocks-now.ensures.devices
    c.pass_time.ensures.state c.try_line.ensures.over)
    (none-over c.write_errors.ensures.session c.write_errors.ensures.devices))
    (goes-over (waited c.wait_between_lines.result c.wait_between_lines.ensures))

pub returns-then-not-wait_between_lines-clause-reports :
    goal.returns-then-not-wait_between_lines-clause-reports
returns-then-not-wait_between_lines-clause-reports g c = λ fault untimed e.
    reports-later c.loop-try.invariant.0
    (reports-later (goes-over c.look_at_input.ensures.on)
    (reports-later (none-over c.read_clocks-now.ensures.state c.read_clocks-now.ensures.devices)
    (reports-later
    (passed-now c.read_clocks-now.result c.read_clocks-now.new.session.state
    c.pass_time.new.self.state
    c.pass_time.ensures.state)
    (reports-later c.try_line.ensures.over
    (reports-later (none-over c.write_errors.ensures.session c.write_errors.ensures.devices)
    (reports-over (none-over refl refl)
    (subst
    (Reports c.try_line.new.self c.write_errors.new.session.state
    (g.D.Devices.traffic c.write_errors.new.devices)
    (g.D.Devices.traffic c.wait_between_lines.new.devices)) (same e)
    (reported Input c.if-not-wait_between_lines.ensures))))))))
  where
    same : {A R : Type 0} {f : DeviceFault}
        → ◌≡◌ {A = Result A (the_data R)} (Err (Device Input)) (Err (Device f)) → Input ≡ f
    same e = cc

pub loop-try-preserved : goal.loop-try-preserved
loop-try-preserved g c = (
  over-then
      (over-then
      (passes-then c.read_clocks-now.result c.read_clocks-now.new.session.state
      c.pass_time.new.self.state
      (over-then (over-then c.loop-try.invariant.0 (goes-over c.look_at_input.ensures.on))
      (none-over c.read_clocks-now.ensures.state refl))
      (λ r. ready-by c.read_clocks-now.ensures.state
      (c.look_at_input.ensures.ready (c.loop-try.invariant.1 r)))
      c.read_clocks-now.ensures.devices
      c.pass_time.ensures.state c.try_line.ensures.over)
      (none-over c.write_errors.ensures.session c.write_errors.ensures.devices))
      (goes-over (waited c.wait_between_lines.result c.wait_between_lines.ensures)),
  λ r. ready-by c.write_errors.ensures.session
      (c.try_line.ensures.ready
      (c.in-Ok-false.is ∙ ap (λ b. Ok b) c.in-Ok-false.field-0-test)
      (ready-by c.pass_time.ensures.state
      (ready-by c.read_clocks-now.ensures.state
      (c.look_at_input.ensures.ready (c.loop-try.invariant.1 r))))),
)

pub returns-clause-over : goal.returns-clause-over
returns-clause-over g c = over-then c.loop-try.invariant.0 (c.pass_run.ensures.over _ _)
