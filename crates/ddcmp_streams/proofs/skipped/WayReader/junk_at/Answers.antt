use Rattle.std.proofs.Common.{◌+◌, ◌∙◌, ap, sym, Some, arith}
use Rattle.ddcmp_explain.specs.Discarded.{skipped_parts}
use Rattle.ddcmp_streams.proofs.JunkLaws.{junk-fill, junk-here, passed-some}
use Rattle.ddcmp_streams.proofs.skipped.WayReader.junk_at.Goals as goal

pub returns-then-is_fill : goal.returns-then-is_fill
returns-then-is_fill c = λ text from l r j.
    junk-fill text from c.args.byte j (sym c.is_fill.ensures ∙ c.if-is_fill.true)

pub returns-in-Some : goal.returns-in-Some
returns-in-Some c = λ text from l r j.
    let is = sym (ap skipped_parts c.in-Some.is) ∙ c.skipped_to.ensures in
    let from_is = ap (λ h. h.reached.offset + h.reached.taken) c.self.view_is ∙ r in
    ap Some l
    ∙ junk-here text from c.args.byte j (sym c.is_fill.ensures ∙ c.if-is_fill.false)
    (omega (arith, passed-some _ _ c.in-Some.field-0 is, from_is, l))
