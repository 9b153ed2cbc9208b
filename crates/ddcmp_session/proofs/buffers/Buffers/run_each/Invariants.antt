use Rattle.ddcmp_session.specs.Lines.{GoesOver, IsReady}
use Rattle.ddcmp_session.proofs.buffers.Buffers.run_each.Given as goal

abbrev pub invariant-loop-line : goal.invariant-loop-line
invariant-loop-line g l =
    GoesOver l.fn.self l.fn.session.state (g.D.Devices.traffic l.fn.devices) l.self l.session.state
    (g.D.Devices.traffic l.devices)
    × (IsReady l.fn.session.state → IsReady l.session.state)
