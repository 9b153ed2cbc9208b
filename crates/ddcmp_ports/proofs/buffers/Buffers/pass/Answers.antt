use Rattle.std.proofs.Common.{refl}
use Rattle.ddcmp_ports.specs.Holding.{held_of}
use Rattle.ddcmp_ports.specs.declared.port.Port.TheVariants.{Input, Output, Errors, First, Second}
use Rattle.ddcmp_ports.specs.Running.{put}
use Rattle.ddcmp_ports.proofs.RunLaws.{all-put, goes-then, stays}
use Rattle.ddcmp_ports.proofs.buffers.Buffers.pass.Goals as goal

pub returns-then-first-clause-on : goal.returns-then-first-clause-on
returns-then-first-clause-on g c =
    let one = held_of c.args.self.now in
    let two = put Input c.serve-input.new.chunk one in
    let three = put Output c.serve-output.new.chunk two in
    let four = put Errors c.serve-errors.new.chunk three in
    let five = put First c.serve-first.new.chunk four in
    goes-then (c.serve-input.ensures.on one refl)
    (goes-then (c.serve-output.ensures.on two refl)
    (goes-then (c.serve-errors.ensures.on three refl)
    (goes-then (c.serve-first.ensures.on four refl)
    (goes-then (c.serve-second.ensures.on five refl)
    (stays (all-put c.args.self.now _ _ _ _ _) (λ q. refl))))))

pub returns-else-first-clause-on : goal.returns-else-first-clause-on
returns-else-first-clause-on g c =
    let one = held_of c.args.self.now in
    let two = put Input c.serve-input.new.chunk one in
    let three = put Output c.serve-output.new.chunk two in
    let four = put Errors c.serve-errors.new.chunk three in
    let five = put First c.serve-first.new.chunk four in
    goes-then (c.serve-input.ensures.on one refl)
    (goes-then (c.serve-output.ensures.on two refl)
    (goes-then (c.serve-errors.ensures.on three refl)
    (goes-then (c.serve-first.ensures.on four refl)
    (goes-then (c.serve-second.ensures.on five refl)
    (stays (all-put c.args.self.now _ _ _ _ _) (λ q. refl))))))
