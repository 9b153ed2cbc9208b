use Rattle.std.proofs.Common.{◌≡◌, ◌∙◌, ap, [], Option, refl, sym, subst}
use Rattle.ddcmp_session.specs.contracts.buffers.Buffers as buffers
use Rattle.ddcmp_session.specs.Devices.{BuffersView, Reports}
use Rattle.ddcmp_session.specs.Traffic.{Traffic, moved_of}
use Rattle.ddcmp_session.specs.declared.devices.DeviceFault.TheVariants.{Line}
use Rattle.ddcmp_session.proofs.GoingLaws.{stays, goes-then, line-reported}
use Rattle.ddcmp_session.proofs.LineGoes.{line-given}
use Rattle.ddcmp_session.proofs.buffers.Buffers.read_line.Goals as goal

pub returns-then-not-wants_line-clause-on : goal.returns-then-not-wants_line-clause-on
returns-then-not-wants_line-clause-on g c = stays refl refl

pub returns-clause-on : goal.returns-clause-on
returns-clause-on g c =
    rw (sym c.self.view_is)
    (goes-then
    (line-given c.read_line-got.result c.read_line-got.ensures.0 c.read_line-got.new.self
    (subst (λ (v : BuffersView). v.received ≡ []) (sym c.self.view_is)
    (c.wants_line.ensures.used c.if-not-wants_line.false)) c.read_line-got.ensures.1
    c.read_line-got.ensures.2)
    (stays (c.report_read.ensures.session ∙ c.log_received.ensures.state)
    c.report_read.ensures.devices))

pub returns-clause-idle : goal.returns-clause-idle
returns-clause-idle g c =
    let empty =
    subst (λ (v : BuffersView). v.received ≡ []) (sym c.self.view_is)
    (c.wants_line.ensures.used c.if-not-wants_line.false) in
    rw (sym c.self.view_is)
    (λ e.
    ap (λ xs. record (buffers.the_view c.self.inside) { received = xs })
    (c.read_line-got.ensures.1
    ∙ ap (λ m. moved_of m c.read_line-got.ensures.0) (c.after_read.ensures.idle e)
    ∙ sym empty))

pub returns-clause-reports : goal.returns-clause-reports
returns-clause-reports g c = λ fault e.
    let r = c.after_read.ensures.fault fault e in
    rw (sym c.self.view_is)
    (subst
    (Reports (buffers.the_view c.self.inside) c.args.session.now.state
    (g.D.Devices.traffic c.args.devices.now) (g.D.Devices.traffic c.report_read.new.self))
    (sym r.1)
    (subst
    (λ (k : Option Traffic). Reports (buffers.the_view c.self.inside) c.args.session.now.state
    (g.D.Devices.traffic c.args.devices.now) k (Line r.0))
    (sym c.report_read.ensures.devices)
    (line-reported c.read_line-got.result c.read_line-got.ensures.0 r.0
    c.read_line-got.ensures.2 r.2)))
