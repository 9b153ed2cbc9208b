use Rattle.std.proofs.Common.{sym}
use Rattle.ddcmp_line.proofs.Cutting.{read-too-many}
use Rattle.ddcmp_line.proofs.command.read_further.Goals as goal

pub returns-then-is_some : goal.returns-then-is_some
returns-then-is_some c =
    read-too-many c.args.verb.now c.args.words.now c.args.end c.cut.result.0.now c.in-Some.rest
    c.cut-2.result.0.now c.cut.result.1 c.cut-2.result.1 c.in-Some.is c.cut.ensures
    c.cut-2.ensures (sym c.if-is_some.ensures)
