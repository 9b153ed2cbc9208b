use Rattle.std.proofs.Common.{◌+◌, ◌∙◌, ap, sym}
use Rattle.ddcmp_explain.specs.Discarded.{passed}
use Rattle.ddcmp_streams.proofs.JunkLaws.{none-skipped, not-yet, skipped-there}
use Rattle.ddcmp_streams.proofs.skipped.WayReader.skipped_to.Goals as goal

pub returns-in-None : goal.returns-in-None
returns-in-None c = λ text from r j.
    none-skipped text from c.args.to (sym j ∙ sym (ap (λ h. h.junk) c.self.view_is) ∙ c.in-None.is)

pub returns-then-to-junk : goal.returns-then-to-junk
returns-then-to-junk c = λ text from r j.
    not-yet text from c.args.to c.in-Some.junk
    (sym j ∙ sym (ap (λ h. h.junk) c.self.view_is) ∙ c.in-Some.is) c.if-to-junk.true

pub returns-else-to-junk : goal.returns-else-to-junk
returns-else-to-junk c = λ text from r j.
    skipped-there text from c.args.to c.in-Some.junk c.skipped_to.result
    (sym j ∙ sym (ap (λ h. h.junk) c.self.view_is) ∙ c.in-Some.is) c.if-to-junk.false
    (c.skipped_to.ensures
    ∙ ap (λ n. passed n c.args.to)
    (ap (λ h. h.reached.offset + h.reached.taken) c.self.view_is ∙ r))
