use Rattle.std.proofs.Common.{◌++◌, length, refl, sym, subst, take}
use Rattle.ddcmp_bridge.specs.Delaying.{bytes_of}
use Rattle.ddcmp_bridge.specs.Relaying.{Relays}
use Rattle.ddcmp_bridge.proofs.DelayLaws.{directs-held}
use Rattle.ddcmp_bridge.proofs.direction.Direction.push.Goals as goal

pub returns-then-length-eq0-clause-directs : goal.returns-then-length-eq0-clause-directs
returns-then-length-eq0-clause-directs c = λ start came taken h.
    let was =
    subst (λ w. Relays start w.relay came (taken ++ bytes_of w.held)) (sym c.self.view_is) h in
    c.push-taken.ensures.relays start came _ was

pub returns-clause-directs : goal.returns-clause-directs
returns-clause-directs c = λ start came taken h.
    let was =
    subst (λ w. Relays start w.relay came (taken ++ bytes_of w.held)) (sym c.self.view_is) h in
    let frame = c.waiting-frame.result.now in
    let before = taken ++ bytes_of c.self.inside.line.held in
    let more = came ++ take c.push-taken.result.used c.args.bytes.now in
    let went =
    c.took.ensures.relays start more before (c.push-taken.ensures.relays start came before was) in
    directs-held start _ more taken frame _ _ _ (length frame) refl c.push.ensures.held
    (subst (λ w. Relays start c.took.new.self more (before ++ take (length frame) w))
    (sym c.waiting-frame.ensures.value) went)
