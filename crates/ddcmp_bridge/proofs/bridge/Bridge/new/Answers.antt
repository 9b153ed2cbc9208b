use Rattle.std.proofs.Common.{◌≡◌, ◌*◌, [], ap, refl, subst, sym}
use Rattle.ddcmp_bridge.specs.Crossing.{CrossesAs, view_of}
use Rattle.ddcmp_bridge.proofs.CrossLaws.{crosses-nothing, not-ended, reopened}
use Rattle.ddcmp_bridge.proofs.bridge.Bridge.new.Goals as goal

pub returns-clause-crosses : goal.returns-clause-crosses
returns-clause-crosses c =
    subst (λ s. CrossesAs (view_of s) []) (sym c.begin.ensures.phase)
    (crosses-nothing _ [] _ _ refl c.begin.ensures.joined c.begin.ensures.left
    (ap (λ n. 1000 * n) c.from.ensures) (not-ended _ refl) c.in_ok-there.ensures.directs
    c.in_ok-back.ensures.directs (λ is. refl) (λ is. refl) (λ is. absurd (reopened is refl))
    c.in_ok-there.ensures.faults
    c.in_ok-back.ensures.faults c.in_ok-there.ensures.delay c.in_ok-back.ensures.delay
    (record { came = λ off stays. refl; gone = λ off stays. refl; whole = λ over fine. refl })
    (record { came = λ off stays. refl; gone = λ off stays. refl; whole = λ over fine. refl }))
