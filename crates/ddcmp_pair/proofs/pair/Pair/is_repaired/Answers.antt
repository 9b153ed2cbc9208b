use Rattle.std.proofs.Common.{subst}
use Rattle.ddcmp_core.specs.Core.{CoreView, IsSound}
use Rattle.ddcmp_pair.proofs.Ready.{run-repaired}
use Rattle.ddcmp_pair.proofs.pair.Pair.is_repaired.Goals as goal

pub returns : goal.returns
returns c = λ ready.
    run-repaired c.args.self.now c.is_run.ensures.run
    (subst (λ (k : CoreView). IsSound k.limits k.station)
    c.station.ensures.core c.holds.ensures.sound)
    (subst (λ (k : CoreView). IsSound k.limits k.station)
    c.station-2.ensures.core c.holds-2.ensures.sound) ready
