use Rattle.std.proofs.Common.{◌∙◌, refl}
use Rattle.ddcmp_ports.proofs.RunLaws.{goes-then, put-same, stays}
use Rattle.ddcmp_ports.proofs.buffers.meet.Goals as goal

pub returns-in-Nothing-clause-on : goal.returns-in-Nothing-clause-on
returns-in-Nothing-clause-on g c = λ held is.
    stays (put-same c.args.port c.args.chunk.now held is) (λ q. refl)

pub returns-in-Closing-clause-on : goal.returns-in-Closing-clause-on
returns-in-Closing-clause-on g c = λ held is.
    goes-then (c.close.ensures.on held)
    (stays (put-same c.args.port c.args.chunk.now held is) (λ q. refl))

pub returns-in-Shutting-clause-on : goal.returns-in-Shutting-clause-on
returns-in-Shutting-clause-on g c = λ held is.
    goes-then (c.shut.ensures.on held)
    (stays (put-same c.args.port c.args.chunk.now held is) (λ q. refl))
