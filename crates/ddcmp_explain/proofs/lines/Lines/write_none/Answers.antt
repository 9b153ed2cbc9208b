use Rattle.std.proofs.Common.{◌∙◌, ap, false, sym}
use Rattle.ddcmp_io.proofs.TextLaws.{sends-as}
use Rattle.ddcmp_explain.specs.Discarded.{none_text}
use Rattle.ddcmp_explain.proofs.lines.Lines.write_none.Goals as goal

pub returns-in-Plain-false-clause-told : goal.returns-in-Plain-false-clause-told
returns-in-Plain-false-clause-told g c =
    sends-as
    (ap (λ n. none_text n false) (sym c.in-Plain-false.is-0)
    ∙ ap (none_text c.args.self.now.style.notation) (sym c.in-Plain-false.is-1))
    c.write.ensures.sends
