use Rattle.std.proofs.Common.{◌∙◌, ap}
use Rattle.ddcmp_pair.specs.Run.{at, is_clean}
use Rattle.ddcmp_pair.proofs.Limits.{step-limits}
use Rattle.ddcmp_pair.proofs.Ordered.{stepped, stepped-quiet, run-in-order}
use Rattle.ddcmp_pair.proofs.pair.Pair.apply.Goals as goal

pub returns-clause-limits : goal.returns-clause-limits
returns-clause-limits c = λ end.
    step-limits c.apply.result c.args.event.now c.self.inside.ends c.apply.new.self end
    c.apply.ensures.state c.apply.ensures.memory
    ∙ ap (λ t. (at end t).core.limits) c.self.view_is

pub invariant_of-self : goal.invariant_of-self
invariant_of-self c = (
  c.self.invariant.0,
  stepped c.apply.result c.args.event.now c.self.inside.ends
      c.apply.new.self c.apply.ensures.state c.apply.ensures.memory c.self.invariant.1,
)

pub returns-clause-order : goal.returns-clause-order
returns-clause-order c =
    run-in-order c.apply.new.self
    (stepped c.apply.result c.args.event.now c.self.inside.ends c.apply.new.self
    c.apply.ensures.state c.apply.ensures.memory c.self.invariant.1)

pub returns-clause-no_restart : goal.returns-clause-no_restart
returns-clause-no_restart c = λ clean honest.
    stepped-quiet c.apply.result c.args.event.now c.self.inside.ends c.apply.new.self
    c.apply.ensures.state c.apply.ensures.reply c.self.invariant.1
    (ap is_clean c.self.view_is ∙ clean) honest
