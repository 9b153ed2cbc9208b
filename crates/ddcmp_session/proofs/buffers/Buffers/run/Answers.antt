use Rattle.std.proofs.Common.{◌≡◌, ◌∙◌, ap, refl, subst, Result, Err, Ok, Some}
use Rattle.ddcmp_session.specs.declared.devices.DeviceFault.{DeviceFault}
use Rattle.ddcmp_session.specs.declared.devices.DeviceFault.TheVariants.{Input}
use Rattle.ddcmp_session.specs.declared.session.EndReason.{EndReason}
use Rattle.ddcmp_session.specs.Devices.{Reports}
use Rattle.ddcmp_session.proofs.CourseLaws.{time-is-over}
use Rattle.ddcmp_session.proofs.GoingLaws.{stays, goes-then, timed-goes, waited, reported}
use Rattle.ddcmp_session.proofs.GoingLaws.{reports-then}
use Rattle.ddcmp_session.proofs.buffers.Buffers.run.Goals as goal

pub loop-pass-init : goal.loop-pass-init
loop-pass-init g c = stays refl refl

pub returns-in-Some-clause-on : goal.returns-in-Some-clause-on
returns-in-Some-clause-on g c =
    goes-then c.loop-pass.invariant
    (goes-then (stays c.read_clocks-now.ensures.state c.read_clocks-now.ensures.devices)
    (timed-goes c.read_clocks-now.result c.read_clocks-now.new.session.state
    c.handle_timeout.new.self.state
    c.handle_timeout.ensures.state))

pub returns-in-Err-clause-on : goal.returns-in-Err-clause-on
returns-in-Err-clause-on g c =
    goes-then c.loop-pass.invariant
    (goes-then (stays c.read_clocks-now.ensures.state c.read_clocks-now.ensures.devices)
    (goes-then
    (timed-goes c.read_clocks-now.result c.read_clocks-now.new.session.state
    c.handle_timeout.new.self.state
    c.handle_timeout.ensures.state) c.pass.ensures.on))

pub loop-pass-preserved-then-is_some : goal.loop-pass-preserved-then-is_some
loop-pass-preserved-then-is_some g c =
    goes-then c.loop-pass.invariant
    (goes-then (stays c.read_clocks-now.ensures.state c.read_clocks-now.ensures.devices)
    (goes-then
    (timed-goes c.read_clocks-now.result c.read_clocks-now.new.session.state
    c.handle_timeout.new.self.state
    c.handle_timeout.ensures.state) c.pass.ensures.on))

pub loop-pass-preserved : goal.loop-pass-preserved
loop-pass-preserved g c =
    goes-then c.loop-pass.invariant
    (goes-then (stays c.read_clocks-now.ensures.state c.read_clocks-now.ensures.devices)
    (goes-then
    (timed-goes c.read_clocks-now.result c.read_clocks-now.new.session.state
    c.handle_timeout.new.self.state
    c.handle_timeout.ensures.state)
    (goes-then c.pass.ensures.on (waited c.wait.result c.wait.ensures))))

pub returns-then-not-wait-clause-on : goal.returns-then-not-wait-clause-on
returns-then-not-wait-clause-on g c =
    goes-then c.loop-pass.invariant
    (goes-then (stays c.read_clocks-now.ensures.state c.read_clocks-now.ensures.devices)
    (goes-then
    (timed-goes c.read_clocks-now.result c.read_clocks-now.new.session.state
    c.handle_timeout.new.self.state
    c.handle_timeout.ensures.state)
    (goes-then c.pass.ensures.on (waited c.wait.result c.wait.ensures))))

same : {f f' : DeviceFault} → ◌≡◌ {A = Result EndReason DeviceFault} (Err f) (Err f') → f ≡ f'
same e = cc

pub returns-in-Err-clause-reports : goal.returns-in-Err-clause-reports
returns-in-Err-clause-reports g c = λ fault e.
    subst
    (Reports c.args.self.now c.args.session.now.state (g.D.Devices.traffic c.args.devices.now)
    (g.D.Devices.traffic c.pass.new.devices)) (same e)
    (reports-then c.loop-pass.invariant
    (reports-then (stays c.read_clocks-now.ensures.state c.read_clocks-now.ensures.devices)
    (reports-then
    (timed-goes c.read_clocks-now.result c.read_clocks-now.new.session.state
    c.handle_timeout.new.self.state
    c.handle_timeout.ensures.state) (c.in-Err.ensures.reports c.in-Err.fault refl))))

pub returns-then-not-wait-clause-reports : goal.returns-then-not-wait-clause-reports
returns-then-not-wait-clause-reports g c = λ fault e.
    subst
    (Reports c.args.self.now c.args.session.now.state (g.D.Devices.traffic c.args.devices.now)
    (g.D.Devices.traffic c.wait.new.devices)) (same e)
    (reports-then c.loop-pass.invariant
    (reports-then (stays c.read_clocks-now.ensures.state c.read_clocks-now.ensures.devices)
    (reports-then
    (timed-goes c.read_clocks-now.result c.read_clocks-now.new.session.state
    c.handle_timeout.new.self.state
    c.handle_timeout.ensures.state)
    (reports-then c.pass.ensures.on (reported Input c.if-not-wait.ensures)))))

pub returns-clause-on : goal.returns-clause-on
returns-clause-on g c =
    goes-then c.loop-pass.invariant
    (timed-goes c.run_ends_at-now.result c.loop-pass.session.state c.handle_timeout-2.new.self.state
    c.handle_timeout-2.ensures.state)

same-end : {e e' : EndReason} → ◌≡◌ {A = Result EndReason DeviceFault} (Ok e) (Ok e') → e ≡ e'
same-end e = cc

pub returns-clause-ended : goal.returns-clause-ended
returns-clause-ended g c = λ why e.
    time-is-over c.loop-pass.session.state c.handle_timeout-2.new.self.state
    c.run_ends_at-now.result
    c.run_ends_at-now.ensures c.handle_timeout-2.ensures.state
    ∙ ap (λ x. Some x) (same-end e)
