use Rattle.std.proofs.Common.{ap, length, arith}
use Rattle.ddcmp_pair.proofs.KeptLaws.{cut-length}
use Rattle.ddcmp_pair.proofs.messages.Messages.len.Goals as goal

pub returns-clause-count : goal.returns-clause-count
returns-clause-count c =
    let inside = c.self.inside in
    let view = ap (λ v. length v.all) c.self.view_is in
    let count = cut-length 0 inside.ends.items inside.bytes.items in
    omega (arith, view, count)
