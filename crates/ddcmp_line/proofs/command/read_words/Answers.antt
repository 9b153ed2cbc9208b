use Rattle.std.proofs.Common.{sym, ◌∙◌}
use Rattle.ddcmp_line.proofs.Cutting.{read-one-end}
use Rattle.ddcmp_line.proofs.command.read_words.Goals as goal

pub returns-in-None : goal.returns-in-None
returns-in-None c =
    c.read_at.ensures
    ∙ sym
    (read-one-end c.args.line.now c.cut.result.0.now c.in-Some.rest c.cut-2.result.0.now
    c.in-Some-end_named.end c.cut.result.1 c.cut-2.result.1 c.in-Some.is c.in-None.is
    c.cut.ensures c.cut-2.ensures (sym c.end_named.ensures ∙ c.in-Some-end_named.is))
