use Rattle.std.proofs.Common.{◌≤◌, ◌<◌, ◌++◌, arith, length, subst, take}
use Rattle.std.proofs.Common.{length-take-le, take-take}
use Rattle.ddcmp_bridge.specs.Delaying.{bytes_of}
use Rattle.ddcmp_bridge.specs.Relaying.{Relays}
use Rattle.ddcmp_bridge.proofs.bridge.push.Goals as goal

pub returns-then-most-bytes-clause-directs : goal.returns-then-most-bytes-clause-directs
returns-then-most-bytes-clause-directs c = λ start came taken k.
    let bytes = c.args.bytes.now in
    let most = c.countable-most.result in
    let within : most ≤ length bytes = omega (arith, c.if-most-bytes.true) in
    let fits : c.push.result.used ≤ most =
    subst (λ n. c.push.result.used ≤ n) (length-take-le most bytes within) c.push.ensures.used in
    subst
    (λ p. Relays start c.push.new.self.relay (came ++ p) (taken ++ bytes_of c.push.new.self.held))
    (take-take c.push.result.used most bytes fits) (c.push.ensures.directs start came taken k)
