use Rattle.ddcmp_session.specs.Devices.{GoesOn}
use Rattle.ddcmp_session.proofs.buffers.Buffers.run.Given as goal

abbrev pub invariant-loop-pass : goal.invariant-loop-pass
invariant-loop-pass g l =
    GoesOn l.fn.self l.fn.session.state (g.D.Devices.traffic l.fn.devices) l.self l.session.state
    (g.D.Devices.traffic l.devices)
