use Rattle.std.proofs.Common.{rules, subst, sym}
use Rattle.ddcmp_device.specs.Pace.{IsPaced, Given}
use Rattle.ddcmp_device.proofs.pace.Pace.given.Goals as goal

pub returns-clause-paced : goal.returns-clause-paced
returns-clause-paced c = λ paced fits.
    subst (IsPaced c.args.now) (sym (search rules))
    (Given c.args.now c.args.n c.args.self.now paced fits)
