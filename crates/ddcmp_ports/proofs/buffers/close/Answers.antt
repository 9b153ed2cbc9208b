use Rattle.std.proofs.Common.{refl}
use Rattle.ddcmp_ports.proofs.RunLaws.{goes-then, left, stays}
use Rattle.ddcmp_ports.proofs.buffers.close.Goals as goal

pub returns-clause-on : goal.returns-clause-on
returns-clause-on g c = λ held.
    goes-then (stays (λ q. refl) c.close.ensures.trace) (left c.args.port c.was_closed.ensures)
