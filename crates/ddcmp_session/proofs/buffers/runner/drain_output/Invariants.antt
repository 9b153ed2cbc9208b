use Rattle.std.proofs.Common.{◌≡◌}
use Rattle.ddcmp_session.specs.Devices.{BuffersView, GoesOn, OnlyDelivers}
use Rattle.ddcmp_session.specs.Finishing.{Drains}
use Rattle.ddcmp_session.proofs.buffers.runner.drain_output.Given as goal

abbrev pub invariant-loop-write : goal.invariant-loop-write
invariant-loop-write g l = record {
  on : (held : BuffersView)
      → GoesOn held l.fn.session.state (g.D.Devices.traffic l.fn.devices) held l.session.state
      (g.D.Devices.traffic l.devices);
  drains : Drains l.fn.session.state (g.D.Devices.traffic l.fn.devices) l.session.state
      (g.D.Devices.traffic l.devices);
  only : OnlyDelivers l.fn.session.state l.session.state;
  log : l.session.log ≡ l.fn.session.log;
}
