use Rattle.std.proofs.Common.{◌≡◌, [], true, sym, subst, Bool, Result, Err}
use Rattle.ddcmp_session.specs.declared.devices.DeviceFault.{DeviceFault}
use Rattle.ddcmp_session.specs.declared.devices.DeviceFault.TheVariants.{Input}
use Rattle.ddcmp_session.specs.Devices.{BuffersView, Reports}
use Rattle.ddcmp_session.proofs.GoingLaws.{waited, reported, reports-then, goes-then}
use Rattle.ddcmp_session.proofs.InputGoes.{ends, none-left}
use Rattle.ddcmp_session.proofs.ReadyLaws.{ended-ready}
use Rattle.ddcmp_session.proofs.buffers.Buffers.pass_input.Goals as goal

pub returns-then-not-wants_input-clause-on : goal.returns-then-not-wants_input-clause-on
returns-then-not-wants_input-clause-on g c = c.pass_parts-moved.ensures.on _

pub returns-then-wait-clause-on : goal.returns-then-wait-clause-on
returns-then-wait-clause-on g c =
    goes-then (c.pass_parts-moved.ensures.on _) (waited c.wait.result c.wait.ensures)

pub returns-else-wait-clause-on : goal.returns-else-wait-clause-on
returns-else-wait-clause-on g c =
    goes-then (c.pass_parts-moved.ensures.on _) (waited c.wait.result c.wait.ensures)

pub returns-then-takes_end-clause-on : goal.returns-then-takes_end-clause-on
returns-then-takes_end-clause-on g c =
    goes-then (c.pass_parts-moved.ensures.on _)
    (ends c.pass_parts-moved.new.session.state c.input_ended.new.self.state
    c.input_ended.ensures.state
    (sym c.if-takes_end.ensures)
    (subst (λ (v : BuffersView). v.input ≡ []) c.self.view_is
    (none-left c.self.inside.input c.if-not-is_empty.ensures))
    (subst (λ (v : BuffersView). v.is_over ≡ true) c.self.view_is c.if-self.true))

pub returns-then-takes_end-clause-ready : goal.returns-then-takes_end-clause-ready
returns-then-takes_end-clause-ready g c = λ r.
    ended-ready c.pass_parts-moved.new.session.state c.input_ended.new.self.state
    c.input_ended.ensures.state (c.pass_parts-moved.ensures.ready r)

pub returns-clause-on : goal.returns-clause-on
returns-clause-on g c = c.pass_parts-moved.ensures.on _

pub returns-else-wait-clause-reports : goal.returns-else-wait-clause-reports
returns-else-wait-clause-reports g c = λ fault e.
    subst
    (Reports c.args.self.now c.args.session.now.state (g.D.Devices.traffic c.args.devices.now)
    (g.D.Devices.traffic c.wait.new.self)) (same e)
    (reports-then (c.pass_parts-moved.ensures.on _) (reported Input c.if-wait.ensures))
  where
    same : {f : DeviceFault} → ◌≡◌ {A = Result Bool DeviceFault} (Err Input) (Err f) → Input ≡ f
    same e = cc
