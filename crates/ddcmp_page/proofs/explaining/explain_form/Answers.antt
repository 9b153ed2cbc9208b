use Rattle.std.proofs.Common.{[], ap, subst, Some}
use Rattle.ddcmp_explain.specs.Explains.{Explains}
use Rattle.ddcmp_page.proofs.explaining.explain_form.Goals as goal

pub returns : goal.returns
returns c =
    let input = c.args.input.now in let by = c.explain_with.result in
    let kept = c.explain_with.new.writer.bytes.items in
    let left = Some c.explain_with.new.reader.left in (
      left,
      subst (λ form. Explains form c.args.style c.args.max input left (Some []) (Some kept) by)
          c.form_of.ensures
          (subst (λ old. Explains c.form_of.result c.args.style c.args.max input left (Some old)
          (Some kept) by) c.requires.empty
          (c.explain_with.ensures.told input (ap (λ p. Some p.left) c.of.ensures))),
    )
