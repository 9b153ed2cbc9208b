use Rattle.std.proofs.Common.{◌+◌, ◌++◌, ap, arith, sym, subst, ◌∙◌}
use Rattle.ddcmp_io.proofs.WrittenLaws.{sends-then}
use Rattle.ddcmp_io.proofs.TextLaws.{sends-as}
use Rattle.std.proofs.lemmas.List.{append-nil}
use Rattle.ddcmp_explain.specs.Discarded.{open_header, open_text, opened, part_lines, passed}
use Rattle.ddcmp_explain.specs.Inside.Heads.{Heads}
use Rattle.ddcmp_explain.proofs.PartLaws.{lines-append, opened-some, opened-none}
use Rattle.ddcmp_explain.proofs.lines.Lines.write_rest.Goals as goal

pub returns-then-left_open-gt0-clause-told : goal.returns-then-left_open-gt0-clause-told
returns-then-left_open-gt0-clause-told g c = λ p h o n.
    let was = c.args.self.now in
    let notation = was.style.notation in
    let head =
    c.header.ensures p.rest (subst (λ x. Heads x p.rest) (sym c.write_skipped_to.ensures.head) h) in
    let told =
    ap (λ s. open_text s.notation c.args.end c.header.result c.args.left_open)
    c.write_skipped_to.ensures.style
    ∙ ap (λ x. open_text notation c.args.end x c.args.left_open) head
    ∙ ap (λ x. open_text notation x (open_header p.rest) c.args.left_open) (sym o)
    ∙ ap (λ x. open_text notation p.offset (open_header p.rest) x) (sym n)
    ∙ sym (opened-some notation p (omega (arith, n, c.if-left_open-gt0.true))) in
    sends-as (sym
    (lines-append notation (passed (was.reached.offset + was.reached.taken) c.args.end)
    (opened p)))
    (sends-then c.write_skipped_to.ensures.passed (sends-as told c.write_open.ensures))

pub returns-else-left_open-gt0-clause-told : goal.returns-else-left_open-gt0-clause-told
returns-else-left_open-gt0-clause-told g c = λ p h o n.
    let was = c.args.self.now in
    let from = passed (was.reached.offset + was.reached.taken) c.args.end in
    sends-as (sym
    (lines-append was.style.notation from (opened p)
    ∙ ap (λ t. part_lines was.style.notation from ++ t)
    (opened-none was.style.notation p (omega (arith, n, c.if-left_open-gt0.false)))
    ∙ append-nil (part_lines was.style.notation from)))
    c.write_skipped_to.ensures.passed
