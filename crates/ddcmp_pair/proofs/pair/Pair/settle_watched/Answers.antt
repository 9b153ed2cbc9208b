use Rattle.ddcmp_pair.specs.Settle.{settling}
use Rattle.ddcmp_pair.proofs.Limits.{part-limits}
use Rattle.ddcmp_pair.proofs.pair.Pair.settle_watched.Goals as goal

pub returns-clause-limits : goal.returns-clause-limits
returns-clause-limits g c = λ end.
    part-limits c.settle_all-settled.result
    (settling c.args.self.now).events c.args.self.now c.settle_all-settled.new.self end
    c.settle_all-settled.ensures.state c.settle_all-settled.ensures.memory
