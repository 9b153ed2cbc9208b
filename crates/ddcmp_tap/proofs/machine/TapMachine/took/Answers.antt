use Rattle.std.proofs.Common.{◌≡◌, ◌≤◌, ◌∙◌, [], ◌∷◌, ◌++◌, ap, length, refl, subst, sym, take, true, false}
use Rattle.std.specs.Prelude.{if◌then◌else◌, is_some}
use Rattle.ddcmp_ports.specs.declared.port.Port.TheVariants.{First, Second}
use Rattle.ddcmp_ports.specs.Running.{Took}
use Rattle.ddcmp_tap.specs.Tapping.{Taps, pending_of}
use Rattle.ddcmp_tap.proofs.TapLaws.{took-first, took-second}
use Rattle.ddcmp_tap.proofs.machine.TapMachine.took.Goals as goal

pub returns-in-First : goal.returns-in-First
returns-in-First c = rw (sym c.self.view_is) (rw (c.in-First.is) (rw (sym c.if-is_some.ensures) (record {
  history = λ h k. took-first _ c.took.new.self _ h c.took.ensures.forwards c.took.ensures.ended k;
  same = refl;
})))

pub returns-in-Second : goal.returns-in-Second
returns-in-Second c = rw (sym c.self.view_is) (rw (c.in-Second.is) (rw (sym c.if-is_some.ensures) (record {
  history = λ h k. took-second _ c.took-in-Second.new.self _ h c.took-in-Second.ensures.forwards c.took-in-Second.ensures.ended k;
  same = refl;
})))
