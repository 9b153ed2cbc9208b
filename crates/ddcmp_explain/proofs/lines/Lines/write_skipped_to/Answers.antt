use Rattle.std.proofs.Common.{◌∙◌, ap, drop, sym}
use Rattle.ddcmp_io.proofs.TextLaws.{sends-as, sends-nothing}
use Rattle.ddcmp_explain.specs.Discarded.{part_lines, passed_text, skipped_parts}
use Rattle.ddcmp_explain.proofs.PartLaws.{skipped-some, skipped-none}
use Rattle.ddcmp_explain.proofs.lines.Lines.write_skipped_to.Goals as goal

pub returns-in-Some-clause-passed : goal.returns-in-Some-clause-passed
returns-in-Some-clause-passed g c =
    let notation = c.args.self.now.style.notation in
    sends-as
    (ap (λ part. drop part.from (passed_text part.notation c.in-Some.it.from c.in-Some.it.count))
    c.whole-part.ensures
    ∙ sym (skipped-some notation c.in-Some.it)
    ∙ ap (part_lines notation) (ap skipped_parts (sym c.in-Some.is) ∙ c.skipped_to.ensures))
    c.write_discarded.ensures

pub returns-in-None-clause-passed : goal.returns-in-None-clause-passed
returns-in-None-clause-passed g c =
    let notation = c.args.self.now.style.notation in
    sends-as
    (sym (skipped-none notation)
    ∙ ap (part_lines notation) (ap skipped_parts (sym c.in-None.is) ∙ c.skipped_to.ensures))
    (sends-nothing _)
