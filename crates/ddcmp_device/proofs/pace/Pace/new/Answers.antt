use Rattle.ddcmp_device.specs.Pace.{New}
use Rattle.ddcmp_device.proofs.pace.Pace.new.Goals as goal

pub returns-clause-paced : goal.returns-clause-paced
returns-clause-paced c = λ now. New now c.args.baud
