use Rattle.std.proofs.Common.{[], Some, ap, subst, sym, ◌∙◌}
use Rattle.ddcmp_explain.specs.Detection.{form_in}
use Rattle.ddcmp_explain.specs.Reads.{Reads}
use Rattle.ddcmp_explain.proofs.FormLaws.{nothing-spelled}
use Rattle.ddcmp_page.proofs.DecodeLaws.{refused}
use Rattle.ddcmp_page.proofs.decoding.decode.Goals as goal

pub loop-count-init : goal.loop-count-init
loop-count-init c =
    let input = c.args.input.now in record {
      fine = ap (λ p. p.worst) c.of-reader.ensures;
      so_far = (
        [],
        subst (λ left. Reads c.args.form input [] (Some left) c.new-read.result)
            (sym (ap (λ p. p.left) c.of-reader.ensures)) (c.new-read.ensures.reads input),
        c.requires.empty ∙ sym (nothing-spelled (form_in c.args.form input)),
      );
    }

pub returns-in-Err : goal.returns-in-Err
returns-in-Err c =
    let at = c.loop-count.invariant.so_far in
    refused c.args.form c.args.input.now at.0 c.next.new.reader.left c.next.new.bytes
    c.loop-count.kept.items c.next.new.self c.in-Err.fault
    (c.in-Err.ensures.gives c.loop-count.invariant.fine c.args.form c.args.input.now at.0 at.1)
    at.2
