use Rattle.std.proofs.Common.{◌≡◌}
use Rattle.ddcmp_ports.specs.Running.{GoesOn, Held, Trace, put}
use Rattle.ddcmp_ports.proofs.buffers.give.Given as goal

abbrev pub invariant-loop-part : goal.invariant-loop-part
invariant-loop-part g l = (trace : Trace) (held : Held) → held l.fn.port ≡ l.fn.chunk
    → GoesOn g.M.Machine.has g.M.Machine.asked l.fn.machine held trace l.machine (put l.fn.port l.chunk held) trace
