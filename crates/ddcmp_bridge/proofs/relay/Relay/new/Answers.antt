use Rattle.std.proofs.Common.{refl}
use Rattle.ddcmp_bridge.proofs.RelayLaws.{relays-nothing}
use Rattle.ddcmp_bridge.proofs.relay.Relay.new.Goals as goal

pub returns-clause-relays : goal.returns-clause-relays
returns-clause-relays c =
    relays-nothing _ _ c.in-Ok.ensures.stands refl refl refl refl c.start_draws.ensures refl refl
