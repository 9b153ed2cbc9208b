use Rattle.std.proofs.Common.{refl}
use Rattle.ddcmp_ports.proofs.RunLaws.{goes-then, shut, stays}
use Rattle.ddcmp_ports.proofs.buffers.shut.Goals as goal

pub returns-clause-on : goal.returns-clause-on
returns-clause-on g c = λ held.
    goes-then (stays (λ q. refl) c.shut.ensures.trace) (shut c.args.port c.was_shut.ensures)
