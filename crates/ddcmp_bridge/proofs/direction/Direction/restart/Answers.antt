use Rattle.std.proofs.Common.{[], ap, sym, subst}
use Rattle.ddcmp_bridge.specs.Relaying.{Relays}
use Rattle.ddcmp_bridge.proofs.DelayLaws.{nothing-held}
use Rattle.ddcmp_bridge.proofs.direction.Direction.restart.Goals as goal

pub returns-clause-directs : goal.returns-clause-directs
returns-clause-directs c =
    subst (Relays _ c.restart.new.self []) (sym (nothing-held _ c.clear.ensures.held))
    (subst (λ s. Relays s c.restart.new.self [] []) (ap (λ v. v.relay.draws) c.self.view_is)
    c.restart.ensures.relays)
