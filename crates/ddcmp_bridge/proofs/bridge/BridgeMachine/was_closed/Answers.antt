use Rattle.std.proofs.Common.{◌∷◌, subst, sym}
use Rattle.ddcmp_ports.specs.declared.port.Port.TheVariants.{First, Second}
use Rattle.ddcmp_ports.specs.Running.{Left}
use Rattle.ddcmp_bridge.specs.Crossing.{CrossesAs, view_of}
use Rattle.ddcmp_bridge.proofs.CrossLaws.{closed-first, closed-second}
use Rattle.ddcmp_bridge.proofs.bridge.BridgeMachine.was_closed.Goals as goal

pub returns-in-First : goal.returns-in-First
returns-in-First c = record {
  history = λ h k.
      subst (λ p. CrossesAs (view_of c.leave_if_closed.new.self) (Left p ∷ h)) (sym c.in-First.is)
      (c.leave_if_closed.ensures.keeps.crosses (Left First ∷ h) (closed-first (view_of c.args.self.now) h k));
  same = c.leave_if_closed.ensures.keeps.asked;
}

pub returns-in-Second : goal.returns-in-Second
returns-in-Second c = record {
  history = λ h k.
      subst (λ p. CrossesAs (view_of c.leave_if_closed-in-Second.new.self) (Left p ∷ h)) (sym c.in-Second.is)
      (c.leave_if_closed-in-Second.ensures.keeps.crosses (Left Second ∷ h) (closed-second (view_of c.args.self.now) h k));
  same = c.leave_if_closed-in-Second.ensures.keeps.asked;
}
