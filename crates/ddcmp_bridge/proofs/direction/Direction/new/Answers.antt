use Rattle.std.proofs.Common.{[], sym, subst}
use Rattle.ddcmp_bridge.specs.Relaying.{Relays}
use Rattle.ddcmp_bridge.proofs.DelayLaws.{nothing-held}
use Rattle.ddcmp_bridge.proofs.direction.Direction.new.Goals as goal

pub returns-clause-directs : goal.returns-clause-directs
returns-clause-directs c =
    subst (Relays _ c.in-Some.relay []) (sym (nothing-held _ c.in-Some-new.ensures.held))
    c.in-Some.ensures.relays
