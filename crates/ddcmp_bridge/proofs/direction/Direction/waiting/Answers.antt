use Rattle.std.proofs.Common.{◌∙◌, ◌++◌, ap, sym}
use Rattle.std.proofs.lemmas.List.{append-nil}
use Rattle.ddcmp_bridge.specs.Delaying.{bytes_of}
use Rattle.ddcmp_bridge.proofs.RelayLaws.{relays-faultless}
use Rattle.ddcmp_bridge.proofs.direction.Direction.waiting.Goals as goal

pub returns-clause-faultless : goal.returns-clause-faultless
returns-clause-faultless c = λ start came taken h l d.
    let idle = sym (ap (λ w. w.relay.waiting) c.self.view_is) ∙ c.self.invariant in
    let gone = taken ++ bytes_of c.args.self.now.held in
    relays-faultless start c.args.self.now.relay came gone h l d ∙ ap (λ t. gone ++ t) idle
    ∙ append-nil gone
