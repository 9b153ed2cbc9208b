use Rattle.std.proofs.Common.{◌≡◌, ◌∙◌, refl, subst, sym, Result, Err}
use Rattle.ddcmp_session.specs.declared.devices.DeviceFault.{DeviceFault}
use Rattle.ddcmp_session.specs.declared.devices.DeviceFault.TheVariants.{Input}
use Rattle.ddcmp_session.specs.Devices.{Reports}
use Rattle.ddcmp_session.proofs.DrainLaws.{only-none, only-then}
use Rattle.ddcmp_session.proofs.Finished.{drains-none, drains-then, drains-wait}
use Rattle.ddcmp_session.proofs.GoingLaws.{stays, goes-then, waited, reported, reports-then}
use Rattle.ddcmp_session.proofs.TakenLaws.{is-drained, written-out}
use Rattle.ddcmp_session.proofs.buffers.runner.drain_output.Goals as goal

pub loop-write-init : goal.loop-write-init
loop-write-init g c = record {
  on = λ held. stays refl c.now.ensures;
  drains = drains-none refl c.now.ensures;
  only = only-none _;
  log = refl;
}

pub returns-then-is_written-clause-on : goal.returns-then-is_written-clause-on
returns-then-is_written-clause-on g c = λ held.
    goes-then (c.loop-write.invariant.on held) (c.deliver_all-delivered.ensures.on held _)

pub returns-in-Err-clause-on : goal.returns-in-Err-clause-on
returns-in-Err-clause-on g c = λ held.
    goes-then (c.loop-write.invariant.on held)
    (goes-then (c.deliver_all-delivered.ensures.on held _) (c.write_output.ensures.on held))

pub loop-write-preserved-then-moved : goal.loop-write-preserved-then-moved
loop-write-preserved-then-moved g c = record {
  on = λ held.
      goes-then (c.loop-write.invariant.on held)
      (goes-then (c.deliver_all-delivered.ensures.on held _)
      (goes-then (c.write_output.ensures.on held) (stays refl c.now-now.ensures)));
  drains =
      drains-then c.loop-write.invariant.drains
      (drains-then (c.deliver_all-delivered.ensures.drains _)
      (drains-then c.write_output.ensures.drains (drains-none refl c.now-now.ensures)));
  only =
      only-then c.loop-write.invariant.only
      (only-then c.deliver_all-delivered.ensures.only
      c.write_output.ensures.only);
  log =
      c.write_output.ensures.log ∙ c.deliver_all-delivered.ensures.log
      ∙ c.loop-write.invariant.log;
}

pub returns-then-left-eq0-clause-on : goal.returns-then-left-eq0-clause-on
returns-then-left-eq0-clause-on g c = λ held.
    goes-then (c.loop-write.invariant.on held)
    (goes-then (c.deliver_all-delivered.ensures.on held _)
    (goes-then (c.write_output.ensures.on held) (stays refl c.now-now.ensures)))

pub returns-then-not-wait-clause-on : goal.returns-then-not-wait-clause-on
returns-then-not-wait-clause-on g c = λ held.
    goes-then (c.loop-write.invariant.on held)
    (goes-then (c.deliver_all-delivered.ensures.on held _)
    (goes-then (c.write_output.ensures.on held)
    (goes-then (stays refl c.now-now.ensures) (waited c.wait.result c.wait.ensures))))

pub loop-write-preserved : goal.loop-write-preserved
loop-write-preserved g c = record {
  on = λ held.
      goes-then (c.loop-write.invariant.on held)
      (goes-then (c.deliver_all-delivered.ensures.on held _)
      (goes-then (c.write_output.ensures.on held)
      (goes-then (stays refl c.now-now.ensures) (waited c.wait.result c.wait.ensures))));
  drains =
      drains-then c.loop-write.invariant.drains
      (drains-then (c.deliver_all-delivered.ensures.drains _)
      (drains-then c.write_output.ensures.drains
      (drains-then (drains-none refl c.now-now.ensures)
      (drains-wait c.wait.result c.wait.ensures))));
  only =
      only-then c.loop-write.invariant.only
      (only-then c.deliver_all-delivered.ensures.only
      c.write_output.ensures.only);
  log =
      c.write_output.ensures.log ∙ c.deliver_all-delivered.ensures.log
      ∙ c.loop-write.invariant.log;
}

same : {f f' : DeviceFault} → ◌≡◌ {A = Result (Unit {0}) DeviceFault} (Err f) (Err f') → f ≡ f'
same e = cc

pub returns-in-Err-clause-reports : goal.returns-in-Err-clause-reports
returns-in-Err-clause-reports g c = λ held fault e untimed.
    subst
    (Reports held c.args.session.now.state (g.D.Devices.traffic c.args.devices.now)
    (g.D.Devices.traffic c.write_output.new.devices)) (same e)
    (reports-then (c.loop-write.invariant.on held)
    (reports-then (c.deliver_all-delivered.ensures.on held _)
    (c.in-Err.ensures.reports held c.in-Err.fault refl)))

pub returns-then-not-wait-clause-reports : goal.returns-then-not-wait-clause-reports
returns-then-not-wait-clause-reports g c = λ held fault e untimed.
    subst
    (Reports held c.args.session.now.state (g.D.Devices.traffic c.args.devices.now)
    (g.D.Devices.traffic c.wait.new.self)) (same e)
    (reports-then (c.loop-write.invariant.on held)
    (reports-then (c.deliver_all-delivered.ensures.on held _)
    (reports-then (c.write_output.ensures.on held)
    (reports-then (stays refl c.now-now.ensures) (reported Input c.if-not-wait.ensures)))))

pub returns-in-Err-clause-only : goal.returns-in-Err-clause-only
returns-in-Err-clause-only g c =
    only-then c.loop-write.invariant.only
    (only-then c.deliver_all-delivered.ensures.only
    c.write_output.ensures.only)

pub returns-then-left-eq0-clause-only : goal.returns-then-left-eq0-clause-only
returns-then-left-eq0-clause-only g c =
    only-then c.loop-write.invariant.only
    (only-then c.deliver_all-delivered.ensures.only
    c.write_output.ensures.only)

pub returns-then-not-wait-clause-only : goal.returns-then-not-wait-clause-only
returns-then-not-wait-clause-only g c =
    only-then c.loop-write.invariant.only
    (only-then c.deliver_all-delivered.ensures.only
    c.write_output.ensures.only)

pub returns-then-is_written-clause-only : goal.returns-then-is_written-clause-only
returns-then-is_written-clause-only g c =
    only-then c.loop-write.invariant.only c.deliver_all-delivered.ensures.only

pub returns-then-is_written-clause-drains : goal.returns-then-is_written-clause-drains
returns-then-is_written-clause-drains g c =
    drains-then c.loop-write.invariant.drains (c.deliver_all-delivered.ensures.drains _)

pub returns-in-Err-clause-drains : goal.returns-in-Err-clause-drains
returns-in-Err-clause-drains g c =
    drains-then c.loop-write.invariant.drains
    (drains-then (c.deliver_all-delivered.ensures.drains _) c.write_output.ensures.drains)

pub returns-then-left-eq0-clause-drains : goal.returns-then-left-eq0-clause-drains
returns-then-left-eq0-clause-drains g c =
    drains-then c.loop-write.invariant.drains
    (drains-then (c.deliver_all-delivered.ensures.drains _)
    (drains-then c.write_output.ensures.drains (drains-none refl c.now-now.ensures)))

pub returns-then-not-wait-clause-drains : goal.returns-then-not-wait-clause-drains
returns-then-not-wait-clause-drains g c =
    drains-then c.loop-write.invariant.drains
    (drains-then (c.deliver_all-delivered.ensures.drains _)
    (drains-then c.write_output.ensures.drains
    (drains-then (drains-none refl c.now-now.ensures)
    (drains-wait c.wait.result c.wait.ensures))))

pub returns-then-is_written-clause-drained : goal.returns-then-is_written-clause-drained
returns-then-is_written-clause-drained g c = λ e.
    written-out c.deliver_all-delivered.new.session.state
    (sym c.is_written.ensures ∙ c.if-is_written.true)

pub returns-then-is_written-clause-emptied : goal.returns-then-is_written-clause-emptied
returns-then-is_written-clause-emptied g c = λ e.
    is-drained c.deliver_all-delivered.new.session.state
    (sym c.is_written.ensures ∙ c.if-is_written.true)
    (c.if-not-delivered.ensures.left refl) (c.if-not-delivered.ensures.emptied refl)
