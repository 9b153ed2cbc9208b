use Rattle.std.proofs.Common.{ap, refl}
use Rattle.ddcmp_explain.proofs.LinesLaws.{begun}
use Rattle.ddcmp_explain.proofs.lines.Lines.new.Goals as goal

pub returns-clause-told : goal.returns-clause-told
returns-clause-told c =
    begun c.args.frames.max _ c.requires refl refl c.new.ensures
    (ap (λ r. r.offset) c.at.ensures) (ap (λ r. r.taken) c.at.ensures) c.new-2.ensures refl
