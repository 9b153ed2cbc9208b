use Rattle.ddcmp_ports.specs.Holding.{held_of}
use Rattle.ddcmp_ports.specs.Running.{GoesOn}
use Rattle.ddcmp_ports.proofs.buffers.run.Given as goal

abbrev pub invariant-loop-turn : goal.invariant-loop-turn
invariant-loop-turn g l =
    GoesOn g.M.Machine.has g.M.Machine.asked l.fn.machine (held_of l.fn.buffers) (g.S.System.trace l.fn.system)
    l.machine (held_of l.buffers) (g.S.System.trace l.system)
