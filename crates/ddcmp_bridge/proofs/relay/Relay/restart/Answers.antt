use Rattle.std.proofs.Common.{ap, refl}
use Rattle.ddcmp_bridge.proofs.RelayLaws.{relays-nothing}
use Rattle.ddcmp_bridge.proofs.relay.Relay.restart.Goals as goal

pub returns-clause-relays : goal.returns-clause-relays
returns-clause-relays c =
    relays-nothing _ _ c.reset.ensures.stands refl refl refl refl (ap (λ v. v.draws) c.self.view_is)
    refl refl
