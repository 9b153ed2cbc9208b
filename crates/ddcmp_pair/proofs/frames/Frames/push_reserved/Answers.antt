use Rattle.std.proofs.Common.{◌∷◌, [], ◌++◌, ◌∙◌, ap}
use Rattle.ddcmp_pair.proofs.KeptLaws.{zip-more}
use Rattle.ddcmp_pair.proofs.frames.Frames.push_reserved.Goals as goal

pub returns : goal.returns
returns c =
    rw (c.push_reserved.ensures.items, c.push_reserved-2.ensures.all)
    (zip-more c.self.inside.headers.items c.self.inside.data.all c.args.header c.args.data.now
    c.self.invariant
    ∙ ap (λ v. v.all ++ (c.args.header, c.args.data.now) ∷ []) c.self.view_is)
