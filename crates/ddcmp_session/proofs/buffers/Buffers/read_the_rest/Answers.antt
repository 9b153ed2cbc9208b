use Rattle.std.proofs.Common.{◌≡◌, refl, subst, Result, Err}
use Rattle.ddcmp_session.specs.declared.devices.DeviceFault.{DeviceFault}
use Rattle.ddcmp_session.specs.declared.devices.DeviceFault.TheVariants.{Input}
use Rattle.ddcmp_session.specs.Devices.{Reports}
use Rattle.ddcmp_session.proofs.GoingLaws.{stays, goes-then, waited, reported, reports-then}
use Rattle.ddcmp_session.proofs.StopLaws.{keeps-same, keeps-then, keeps-wait}
use Rattle.ddcmp_session.proofs.buffers.Buffers.read_the_rest.Goals as goal

same : {f f' : DeviceFault} → ◌≡◌ {A = Result (Unit {0}) DeviceFault} (Err f) (Err f') → f ≡ f'
same e = cc

pub returns-then-self-clause-on : goal.returns-then-self-clause-on
returns-then-self-clause-on g c = λ session. stays refl refl

pub returns-then-not-wait-clause-on : goal.returns-then-not-wait-clause-on
returns-then-not-wait-clause-on g c = λ session. waited c.wait.result c.wait.ensures

pub returns-then-not-wait-clause-reports : goal.returns-then-not-wait-clause-reports
returns-then-not-wait-clause-reports g c = λ session fault e.
    subst
    (Reports c.args.self.now session (g.D.Devices.traffic c.args.devices.now)
    (g.D.Devices.traffic c.wait.new.self)) (same e)
    (reported Input c.if-not-wait.ensures)

pub returns-in-Ok-clause-on : goal.returns-in-Ok-clause-on
returns-in-Ok-clause-on g c = λ session.
    goes-then (waited c.wait.result c.wait.ensures) (c.in-Ok.ensures.on session)

pub returns-in-Err-clause-on : goal.returns-in-Err-clause-on
returns-in-Err-clause-on g c = λ session.
    goes-then (waited c.wait.result c.wait.ensures) (c.in-Err.ensures.on session)

pub returns-in-Err-clause-reports : goal.returns-in-Err-clause-reports
returns-in-Err-clause-reports g c = λ session fault e.
    subst
    (Reports c.args.self.now session (g.D.Devices.traffic c.args.devices.now)
    (g.D.Devices.traffic c.read_now.new.devices)) (same e)
    (reports-then (waited c.wait.result c.wait.ensures)
    (c.in-Err.ensures.reports session c.in-Err.fault refl))

pub returns-then-self-clause-keeps : goal.returns-then-self-clause-keeps
returns-then-self-clause-keeps g c = keeps-same refl

pub returns-then-not-wait-clause-keeps : goal.returns-then-not-wait-clause-keeps
returns-then-not-wait-clause-keeps g c = keeps-wait c.wait.result c.wait.ensures

pub returns-in-Ok-clause-keeps : goal.returns-in-Ok-clause-keeps
returns-in-Ok-clause-keeps g c =
    keeps-then (keeps-wait c.wait.result c.wait.ensures) c.in-Ok.ensures.keeps

pub returns-in-Err-clause-keeps : goal.returns-in-Err-clause-keeps
returns-in-Err-clause-keeps g c =
    keeps-then (keeps-wait c.wait.result c.wait.ensures) c.in-Err.ensures.keeps
