use Rattle.std.proofs.Common.{Option, Some, None, IfSome, subst}
use Rattle.ddcmp_frame.specs.Fields.{CountedFields}
use Rattle.ddcmp_frame.specs.Reader.{PushesFrame}
use Rattle.ddcmp_frame.specs.Inside.Scan.{view_of, TakesFrame}
use Rattle.ddcmp_frame.proofs.PartLaws.{pushes-piece}
use Rattle.ddcmp_frame.proofs.reader.Reader.push_frame.Goals as goal

by : (P Q : CountedFields → Type 0) (o : Option CountedFields) → ((h : CountedFields) → P h → Q h)
    → IfSome o P → IfSome o Q
by P Q None more p = p
by P Q (Some h) more p = more h p

pub returns-clause-pushes : goal.returns-clause-pushes
returns-clause-pushes c =
    let s = c.self.inside.scan in
    let new = c.take_frame.new.self in
    let piece = c.args.piece.now in
    by (λ h. TakesFrame s piece h new)
    (λ h. PushesFrame c.args.self.now piece h (view_of new))
    c.take_frame.result
    (λ h t. subst (λ v. PushesFrame v piece h (view_of new)) c.self.view_is
    (pushes-piece (view_of s) _ piece _ _ t)) c.take_frame.ensures.takes
