use Rattle.std.proofs.Common.{refl, ◌∙◌}
use Rattle.ddcmp_session.proofs.Finished.{drains-none, drains-then, drains-wait}
use Rattle.ddcmp_session.proofs.GoingLaws.{stays, goes-then, waited}
use Rattle.ddcmp_session.proofs.LogLaws.{queued-none, queued-on, writes-errors}
use Rattle.ddcmp_session.proofs.buffers.runner.drain_errors.Goals as goal

pub loop-write-init : goal.loop-write-init
loop-write-init g c = record {
  on = λ held. stays refl c.now-last.ensures;
  drains = drains-none refl c.now-last.ensures;
  session = refl;
  log = refl;
  written = queued-none;
}

pub returns-then-left-eq0-clause-on : goal.returns-then-left-eq0-clause-on
returns-then-left-eq0-clause-on g c = λ held.
    goes-then (c.loop-write.invariant.on held)
    (goes-then (stays c.write_errors.ensures.session c.write_errors.ensures.devices)
    (stays refl c.now.ensures))

pub returns-then-not-wait-clause-on : goal.returns-then-not-wait-clause-on
returns-then-not-wait-clause-on g c = λ held.
    goes-then (c.loop-write.invariant.on held)
    (goes-then (stays c.write_errors.ensures.session c.write_errors.ensures.devices)
    (goes-then (stays refl c.now.ensures) (waited c.wait.result c.wait.ensures)))

pub loop-write-preserved : goal.loop-write-preserved
loop-write-preserved g c = record {
  on = λ held.
      goes-then (c.loop-write.invariant.on held)
      (goes-then (stays c.write_errors.ensures.session c.write_errors.ensures.devices)
      (goes-then (stays refl c.now.ensures) (waited c.wait.result c.wait.ensures)));
  drains =
      drains-then c.loop-write.invariant.drains
      (drains-then (drains-none c.write_errors.ensures.session c.write_errors.ensures.devices)
      (drains-then (drains-none refl c.now.ensures)
      (drains-wait c.wait.result c.wait.ensures)));
  session = c.write_errors.ensures.session ∙ c.loop-write.invariant.session;
  log =
      writes-errors c.args.session.now.log c.loop-write.session.log c.write_errors.new.session.log
      c.loop-write.invariant.log c.write_errors.ensures.log;
  written = queued-on _ _ _ c.loop-write.invariant.written c.write_errors.ensures.written;
}

pub returns-then-left-eq0-clause-drains : goal.returns-then-left-eq0-clause-drains
returns-then-left-eq0-clause-drains g c =
    drains-then c.loop-write.invariant.drains
    (drains-then (drains-none c.write_errors.ensures.session c.write_errors.ensures.devices)
    (drains-none refl c.now.ensures))

pub returns-then-not-wait-clause-drains : goal.returns-then-not-wait-clause-drains
returns-then-not-wait-clause-drains g c =
    drains-then c.loop-write.invariant.drains
    (drains-then (drains-none c.write_errors.ensures.session c.write_errors.ensures.devices)
    (drains-then (drains-none refl c.now.ensures) (drains-wait c.wait.result c.wait.ensures)))

pub returns-then-left-eq0-clause-written : goal.returns-then-left-eq0-clause-written
returns-then-left-eq0-clause-written g c =
    queued-on _ _ _ c.loop-write.invariant.written c.write_errors.ensures.written

pub returns-then-not-wait-clause-written : goal.returns-then-not-wait-clause-written
returns-then-not-wait-clause-written g c =
    queued-on _ _ _ c.loop-write.invariant.written c.write_errors.ensures.written

pub loop-write-preserved-then-write_errors : goal.loop-write-preserved-then-write_errors
loop-write-preserved-then-write_errors g c = record {
  on = λ held.
      goes-then (c.loop-write.invariant.on held)
      (goes-then (stays c.write_errors.ensures.session c.write_errors.ensures.devices)
      (stays refl c.now-last-then-write_errors.ensures));
  drains =
      drains-then c.loop-write.invariant.drains
      (drains-then (drains-none c.write_errors.ensures.session c.write_errors.ensures.devices)
      (drains-none refl c.now-last-then-write_errors.ensures));
  session = c.write_errors.ensures.session ∙ c.loop-write.invariant.session;
  log =
      writes-errors c.args.session.now.log c.loop-write.session.log c.write_errors.new.session.log
      c.loop-write.invariant.log c.write_errors.ensures.log;
  written = queued-on _ _ _ c.loop-write.invariant.written c.write_errors.ensures.written;
}
