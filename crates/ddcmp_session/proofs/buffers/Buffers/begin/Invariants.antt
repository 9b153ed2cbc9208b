use Rattle.ddcmp_session.specs.Lines.{GoesOver, IsReady}
use Rattle.ddcmp_session.proofs.buffers.Buffers.begin.Given as goal

abbrev pub invariant-loop-try : goal.invariant-loop-try
invariant-loop-try g l =
    GoesOver l.fn.self l.fn.session.state (g.D.Devices.traffic l.fn.devices) l.self l.session.state
    (g.D.Devices.traffic l.devices)
    × (IsReady l.fn.session.state → IsReady l.session.state)
