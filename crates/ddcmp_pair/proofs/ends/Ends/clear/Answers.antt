use Rattle.std.proofs.Common.{ap}
use Rattle.ddcmp_pair.proofs.Placed.{placed-nothing}
use Rattle.ddcmp_pair.proofs.ends.Ends.clear.Goals as goal

pub invariant_of-self : goal.invariant_of-self
invariant_of-self c =
    let a = c.clear.ensures in
    let b = c.clear-2.ensures in (
      placed-nothing c.clear.new.self _ a.place (ap (λ x. x.arrived) a.state)
          (ap (λ x. x.sent) b.state),
      placed-nothing c.clear-2.new.self _ b.place (ap (λ x. x.arrived) b.state)
          (ap (λ x. x.sent) a.state),
    )
