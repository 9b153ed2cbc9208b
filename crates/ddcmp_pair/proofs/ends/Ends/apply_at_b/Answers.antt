use Rattle.std.proofs.Common.{subst}
use Rattle.ddcmp_pair.specs.Inside.Sides.{IsPlaced}
use Rattle.ddcmp_pair.proofs.Placed.{placed-after}
use Rattle.ddcmp_pair.proofs.ends.Ends.apply_at_b.Goals as goal

pub invariant_of-self : goal.invariant_of-self
invariant_of-self c = (
  placed-after c.apply.result c.args.event.now c.self.inside.a c.self.inside.b c.apply.new.self
      c.apply.ensures.state c.apply.ensures.memory c.self.invariant.0,
  subst (λ t. IsPlaced c.apply.new.self t) c.sent.ensures c.apply.ensures.placed,
)
