use Rattle.std.proofs.Common.{refl}
use Rattle.ddcmp_pair.proofs.Watching.{saw-one}
use Rattle.ddcmp_pair.proofs.pair.Pair.step_watched.Goals as goal

pub returns-clause-seen : goal.returns-clause-seen
returns-clause-seen g c = λ ok.
    saw-one _ _ c.args.event _ c.args.self.now c.in_ok-reply.ensures.reply
    c.on_step.ensures
