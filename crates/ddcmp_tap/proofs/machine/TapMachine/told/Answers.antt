use Rattle.std.proofs.Common.{subst}
use Rattle.ddcmp_ports.specs.Running.{IsAwaited}
use Rattle.ddcmp_tap.specs.Tapping.{needs_of}
use Rattle.ddcmp_tap.proofs.TapLaws.{never-opens}
use Rattle.ddcmp_tap.proofs.machine.TapMachine.told.Goals as goal

pub returns-in-Opened : goal.returns-in-Opened
returns-in-Opened c =
    never-opens c.args.self.now c.args.port
    (subst (λ w. IsAwaited (needs_of c.args.self.now c.args.port) w) c.in-Opened.is
    c.requires.awaited)
