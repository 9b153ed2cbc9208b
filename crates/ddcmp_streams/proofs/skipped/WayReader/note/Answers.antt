use Rattle.std.proofs.Common.{◌∙◌, ap, sym}
use Rattle.ddcmp_streams.proofs.JunkLaws.{junk-stays}
use Rattle.ddcmp_streams.proofs.skipped.WayReader.note.Goals as goal

pub returns-in-Some-clause-junk : goal.returns-in-Some-clause-junk
returns-in-Some-clause-junk c = λ text from h.
    let is = sym (ap (λ h. h.junk) c.self.view_is) ∙ c.in-Some.is in
    is ∙ junk-stays text from c.args.byte c.in-Some.field-0 (sym h.junk ∙ is)
