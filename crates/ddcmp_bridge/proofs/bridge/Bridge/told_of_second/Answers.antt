use Rattle.std.proofs.Common.{◌≡◌, ◌∷◌, refl, subst, sym}
use Rattle.ddcmp_ports.specs.declared.port.Port.TheVariants.{Second}
use Rattle.ddcmp_ports.specs.Running.{IsAwaited, Told}
use Rattle.ddcmp_bridge.specs.Crossing.{CrossesAs, needs_of_second, view_of}
use Rattle.ddcmp_bridge.proofs.CrossLaws.{opening-second}
use Rattle.ddcmp_bridge.proofs.bridge.Bridge.told_of_second.Goals as goal

pub returns-in-Opened-clause-has : goal.returns-in-Opened-clause-has
returns-in-Opened-clause-has c = λ h k.
    subst (λ w. CrossesAs (view_of c.opened.new.self) (Told Second w ∷ h)) (sym c.in-Opened.is)
    (c.opened.ensures.second c.in-Opened.field-0 h refl
    (opening-second c.args.self.now.phase c.args.self.now
    (subst (IsAwaited (needs_of_second c.args.self.now.phase c.args.self.now)) c.in-Opened.is
    c.requires.awaited)) k)
