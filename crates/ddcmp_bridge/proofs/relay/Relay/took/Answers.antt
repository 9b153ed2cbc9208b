use Rattle.std.proofs.Common.{◌∙◌, ap, drop, sym, take}
use Rattle.ddcmp_frame.proofs.ReadingLaws.{drop-drop}
use Rattle.ddcmp_bridge.proofs.RelayLaws.{relays-took}
use Rattle.ddcmp_bridge.proofs.relay.Relay.took.Goals as goal

pub returns-clause-relays : goal.returns-clause-relays
returns-clause-relays c = λ start came taken r.
    let was = c.self.inside in
    let v = c.self.view_is in
    relays-took start c.args.self.now _ came taken c.args.n r (ap (λ w. w.frames) v)
    (sym (drop-drop was.from c.args.n (take was.end was.frame.items))
    ∙ ap (λ w. drop c.args.n w.waiting) v)
    (ap (λ w. w.good) v) (ap (λ w. w.bytes) v) (ap (λ w. w.items) v) (ap (λ w. w.faults) v)
    (ap (λ w. w.draws) v) (ap (λ w. w.lost) v) (ap (λ w. w.altered) v)
