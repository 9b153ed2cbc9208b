use Rattle.std.proofs.Common.{ap, arith, length}
use Rattle.ddcmp_pair.proofs.KeptLaws.{zip-length}
use Rattle.ddcmp_pair.proofs.frames.Frames.len.Goals as goal

pub returns : goal.returns
returns c =
    let view = ap (λ v. length v.all) c.self.view_is in
    let count = zip-length c.self.inside.headers.items c.self.inside.data.all c.self.invariant in
    omega (arith, view, count)
