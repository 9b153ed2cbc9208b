use Rattle.std.proofs.Common.{◌≡◌, ◌∷◌, refl, subst, sym, take}
use Rattle.ddcmp_ports.specs.declared.port.Need.TheVariants.{Bytes}
use Rattle.ddcmp_ports.specs.Running.{Gave}
use Rattle.ddcmp_bridge.specs.Crossing.{CrossesAs, needs_of, view_of}
use Rattle.ddcmp_bridge.proofs.CrossLaws.{bytes-first, bytes-second, gave-first, gave-second}
use Rattle.ddcmp_bridge.proofs.bridge.BridgeMachine.give.Goals as goal

pub returns-in-First-clause-has : goal.returns-in-First-clause-has
returns-in-First-clause-has c =
    let needs =
    bytes-first c.args.self.now.phase c.args.self.now
    (subst (λ p. needs_of c.args.self.now p ≡ Bytes) c.in-First.is c.requires.needed) in
    record {
      history = λ h k.
          subst (λ p. CrossesAs (record (view_of c.args.self.now) { there = c.cross.new.way })
          (Gave p (take c.cross.result c.args.bytes.now) ∷ h)) (sym c.in-First.is)
          (gave-first (view_of c.args.self.now) c.cross.new.way _ h needs.0 needs.1
          c.cross.ensures.directs c.cross.ensures.faults c.cross.ensures.delay k);
      same = refl;
    }

pub returns-in-Second-clause-has : goal.returns-in-Second-clause-has
returns-in-Second-clause-has c =
    let needs =
    bytes-second c.args.self.now.phase c.args.self.now
    (subst (λ p. needs_of c.args.self.now p ≡ Bytes) c.in-Second.is c.requires.needed) in
    record {
      history = λ h k.
          subst (λ p. CrossesAs (record (view_of c.args.self.now) { back = c.cross-in-Second.new.way })
          (Gave p (take c.cross-in-Second.result c.args.bytes.now) ∷ h)) (sym c.in-Second.is)
          (gave-second (view_of c.args.self.now) c.cross-in-Second.new.way _ h needs.0 needs.1
          c.cross-in-Second.ensures.directs c.cross-in-Second.ensures.faults c.cross-in-Second.ensures.delay k);
      same = refl;
    }
