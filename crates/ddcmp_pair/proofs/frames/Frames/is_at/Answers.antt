use Rattle.std.proofs.Common.{[], ◌∙◌, ap, arith, get_or, length, sym}
use Rattle.ddcmp_pair.proofs.KeptLaws.{zip-at, zip-length}
use Rattle.ddcmp_pair.proofs.frames.Frames.is_at.Goals as goal

pub index-requires : goal.index-requires
index-requires c =
    let view = ap (λ v. length v.all) c.self.view_is in
    let count = zip-length c.self.inside.headers.items c.self.inside.data.all c.self.invariant in
    omega (arith, view, count)

pub at-requires : goal.at-requires
at-requires c =
    let view = ap (λ v. length v.all) c.self.view_is in
    let count = zip-length c.self.inside.headers.items c.self.inside.data.all c.self.invariant in
    let same = c.self.invariant in
    omega (arith, view, count, same)

pub returns : goal.returns
returns c = λ d.
    let view = ap (λ v. length v.all) c.self.view_is in
    let count = zip-length c.self.inside.headers.items c.self.inside.data.all c.self.invariant in
    let pair =
    zip-at c.self.inside.headers.items c.self.inside.data.all c.args.i d c.index.result.now []
    c.self.invariant (omega (arith, view, count)) in
    let sent = sym (ap (λ v. get_or v.all c.args.i d) c.self.view_is) ∙ pair in
    rw (sent, ← c.at.ensures, ← c.index.ensures) c.is_same.ensures
