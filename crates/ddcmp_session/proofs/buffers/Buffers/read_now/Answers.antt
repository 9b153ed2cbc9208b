use Rattle.std.proofs.Common.{◌≡◌, ◌∙◌, ap, false, Bool, true, Result, Err, refl, sym}
use Rattle.std.proofs.Common.{subst, ◌==◌, append-nil}
use Rattle.ddcmp_session.specs.declared.devices.DeviceFault.{DeviceFault}
use Rattle.ddcmp_session.specs.declared.devices.DeviceFault.TheVariants.{Input}
use Rattle.ddcmp_io.specs.declared.device.Got.TheVariants.{Bytes}
use Rattle.ddcmp_session.specs.Devices.{BuffersView, Reports}
use Rattle.ddcmp_session.proofs.GoingLaws.{idles, faulted, reported}
use Rattle.ddcmp_session.proofs.StopLaws.{keeps-fault, keeps-read, keeps-wait}
use Rattle.ddcmp_session.proofs.InputGoes.{input-given, no-input}
use Rattle.ddcmp_session.specs.contracts.buffers.Buffers as buffers
use Rattle.ddcmp_session.proofs.buffers.Buffers.read_now.Goals as goal

pub returns-in-Idle-clause-on : goal.returns-in-Idle-clause-on
returns-in-Idle-clause-on g c =
    rw (sym c.self.view_is) (λ session.
    no-input c.read_input.new.self
    c.in-Idle.ensures.1 (idles (λ t. t) c.in-Idle.ensures.2 (λ t. refl)))

pub returns-in-Failed-clause-on : goal.returns-in-Failed-clause-on
returns-in-Failed-clause-on g c =
    rw (sym c.self.view_is) (λ session.
    no-input c.read_input.new.self
    c.in-Failed.ensures.1 (faulted Input c.in-Failed.ensures.2))

pub returns-in-Failed-clause-reports : goal.returns-in-Failed-clause-reports
returns-in-Failed-clause-reports g c = λ session fault e.
    subst
    (Reports c.args.self.now session (g.D.Devices.traffic c.args.devices.now)
    (g.D.Devices.traffic c.read_input.new.devices)) (same e)
    (reported Input c.in-Failed.ensures.2)
  where
    same : {f : DeviceFault} → ◌≡◌ {A = Result Bool DeviceFault} (Err Input) (Err f) → Input ≡ f
    same e = cc

pub returns-clause-on : goal.returns-clause-on
returns-clause-on g c =
    rw (sym c.self.view_is) (λ session.
    input-given c.in-Bytes.n c.in-Bytes.ensures.0 c.read_input.new.self (c.in-Bytes.n == 0)
    (subst (λ (v : BuffersView). v.is_over ≡ false) (sym c.self.view_is) c.requires.goes_on)
    c.in-Bytes.ensures.1 c.in-Bytes.ensures.2 refl)

pub returns-in-Idle-clause-keeps : goal.returns-in-Idle-clause-keeps
returns-in-Idle-clause-keeps g c = keeps-wait true c.in-Idle.ensures.2

pub returns-in-Failed-clause-keeps : goal.returns-in-Failed-clause-keeps
returns-in-Failed-clause-keeps g c = keeps-fault Input c.in-Failed.ensures.2

pub returns-clause-keeps : goal.returns-clause-keeps
returns-clause-keeps g c = keeps-read (Bytes c.in-Bytes.n) c.in-Bytes.ensures.0 c.in-Bytes.ensures.2

pub returns-in-Idle-clause-idle : goal.returns-in-Idle-clause-idle
returns-in-Idle-clause-idle g c =
    rw (sym c.self.view_is)
    (λ e.
    ap (λ xs. record (buffers.the_view c.self.inside) { input = xs })
    (c.in-Idle.ensures.1 ∙ append-nil c.self.inside.input))
