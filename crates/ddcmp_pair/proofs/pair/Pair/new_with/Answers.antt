use Rattle.std.proofs.Common.{ap}
use Rattle.std.specs.Prelude.{◌&&◌, is_some}
use Rattle.ddcmp_proto.specs.Config.{first_refusal}
use Rattle.ddcmp_pair.proofs.Ordered.{made, run-begun}
use Rattle.ddcmp_pair.proofs.Placed.{placed-nothing}
use Rattle.ddcmp_pair.proofs.pair.Pair.new_with.Goals as goal

pub invariant_of-result : goal.invariant_of-result
invariant_of-result c =
    let a = c.in-Ok.ensures in
    let b = c.in-Ok-new.ensures in (
      placed-nothing c.in-Ok.side _ a.place (ap (λ x. x.arrived) a.made) (ap (λ x. x.sent) b.made),
      placed-nothing c.in-Ok-new.side _ b.place (ap (λ x. x.arrived) b.made)
          (ap (λ x. x.sent) a.made),
    )

pub invariant_of-result-2 : goal.invariant_of-result-2
invariant_of-result-2 c =
    let a = c.in-Ok.ensures in
    let b = c.in-Ok-new.ensures in (
      c.args.by_user,
      run-begun c.args.by_user c.args.first c.args.second
          (made (first_refusal c.args.first)
          c.new.result c.in-Ok.side c.new.ensures.refused c.in-Ok.is)
          (made (first_refusal c.args.second)
          c.new-2.result c.in-Ok-new.side c.new-2.ensures.refused c.in-Ok-new.is) _
          (λ
          i. record {
            a = a.made i;
            b = b.made i;
            honest = is_some (a.place i) && is_some (b.place i);
          }),
    )
