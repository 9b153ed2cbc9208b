use Rattle.ddcmp_ports.proofs.RunLaws.{goes-then}
use Rattle.ddcmp_ports.proofs.buffers.serve.Goals as goal

pub returns-then-went-clause-on : goal.returns-then-went-clause-on
returns-then-went-clause-on g c = λ held is.
    goes-then (c.write-went.ensures.on held) (c.meet-came.ensures.on held is)

pub returns-else-went-clause-on : goal.returns-else-went-clause-on
returns-else-went-clause-on g c = λ held is.
    goes-then (c.write-went.ensures.on held) (c.meet-came.ensures.on held is)
