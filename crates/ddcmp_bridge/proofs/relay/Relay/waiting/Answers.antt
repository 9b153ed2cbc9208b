use Rattle.ddcmp_bridge.proofs.RelayLaws.{relays-faultless}
use Rattle.ddcmp_bridge.proofs.relay.Relay.waiting.Goals as goal

pub returns-clause-faultless : goal.returns-clause-faultless
returns-clause-faultless c = λ start came taken r l d.
    relays-faultless start c.args.self.now came taken r l d
