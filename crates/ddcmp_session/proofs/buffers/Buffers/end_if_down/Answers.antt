use Rattle.std.proofs.Common.{◌≡◌, ◌∙◌, ap, refl, sym, subst, Bool, Result, Err}
use Rattle.ddcmp_session.specs.declared.devices.DeviceFault.{DeviceFault}
use Rattle.ddcmp_session.specs.declared.devices.DeviceFault.TheVariants.{Input}
use Rattle.ddcmp_session.specs.Devices.{BuffersView, Reports}
use Rattle.ddcmp_session.proofs.GoingLaws.{line-was-down, reported, stays, waited}
use Rattle.ddcmp_session.proofs.buffers.Buffers.end_if_down.Goals as goal

same : {f f' : DeviceFault} → ◌≡◌ {A = Result Bool DeviceFault} (Err f) (Err f') → f ≡ f'
same e = cc

pub returns-in-None-clause-on : goal.returns-in-None-clause-on
returns-in-None-clause-on g c = stays refl refl

pub returns-in-Some-clause-on : goal.returns-in-Some-clause-on
returns-in-Some-clause-on g c = waited c.wait.result c.wait.ensures

pub returns-in-Some-clause-reports : goal.returns-in-Some-clause-reports
returns-in-Some-clause-reports g c = λ fault e.
    subst
    (Reports c.args.self.now c.args.session.now.state (g.D.Devices.traffic c.args.devices.now)
    (g.D.Devices.traffic c.wait.new.self)) (same e)
    (reported Input c.if-not-wait.ensures)

pub returns-in-Some-2-clause-on : goal.returns-in-Some-2-clause-on
returns-in-Some-2-clause-on g c = waited c.wait.result c.wait.ensures

pub returns-in-Some-3-clause-on : goal.returns-in-Some-3-clause-on
returns-in-Some-3-clause-on g c = waited c.wait.result c.wait.ensures

pub returns-in-Some-3-clause-reports : goal.returns-in-Some-3-clause-reports
returns-in-Some-3-clause-reports g c = λ fault e.
    subst
    (Reports c.args.self.now c.args.session.now.state (g.D.Devices.traffic c.args.devices.now)
    (g.D.Devices.traffic c.wait.new.self)) (same e)
    (line-was-down c.in-Some-3.why
    (ap (λ (v : BuffersView). v.down) (sym c.self.view_is) ∙ c.in-Some-3.is)
    c.if-not-wait.ensures)
