use Rattle.std.proofs.Common.{◌≡◌}
use Rattle.ddcmp_session.specs.Devices.{BuffersView, GoesOn}
use Rattle.ddcmp_session.specs.Finishing.{Drains}
use Rattle.ddcmp_session.specs.LastReports.{WritesQueued}
use Rattle.ddcmp_session.proofs.buffers.runner.drain_errors.Given as goal

abbrev pub invariant-loop-write : goal.invariant-loop-write
invariant-loop-write g l = record {
  on : (held : BuffersView)
      → GoesOn held l.fn.session.state (g.D.Devices.traffic l.fn.devices) held l.session.state
      (g.D.Devices.traffic l.devices);
  drains : Drains l.fn.session.state (g.D.Devices.traffic l.fn.devices) l.session.state
      (g.D.Devices.traffic l.devices);
  session : l.session.state ≡ l.fn.session.state;
  log : l.session.log ≡ record l.fn.session.log { errors = l.session.log.errors };
  written : WritesQueued l.fn.session.log.errors l.session.log.errors;
}
