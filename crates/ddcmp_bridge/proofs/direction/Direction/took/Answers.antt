use Rattle.std.proofs.Common.{◌∙◌, ◌++◌, ap, sym, subst, take}
use Rattle.ddcmp_bridge.specs.Delaying.{after_taking, bytes_of}
use Rattle.ddcmp_bridge.specs.Relaying.{Relays}
use Rattle.ddcmp_bridge.proofs.DelayLaws.{directs-took}
use Rattle.ddcmp_bridge.proofs.direction.Direction.took.Goals as goal

pub returns-clause-directs : goal.returns-clause-directs
returns-clause-directs c = λ start came taken h.
    let was = c.args.self.now in
    let n = c.args.n in
    let v = c.self.view_is in
    let left = c.took.ensures.held ∙ ap (λ w. after_taking n w.held) v in
    let more = taken ++ take n (bytes_of was.held) in
    subst (λ r. Relays start r came (more ++ bytes_of c.took.new.self.held))
    (sym (ap (λ w. w.relay) v))
    (subst (λ t. Relays start was.relay came (more ++ bytes_of t)) (sym left)
    (directs-took start was.relay came taken was.held n c.requires h))
