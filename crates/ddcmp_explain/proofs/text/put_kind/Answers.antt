use Rattle.std.proofs.Common.{arith}
use Rattle.ddcmp_explain.proofs.PuttingLaws.{puts-front, puts-as}
use Rattle.ddcmp_explain.proofs.text.put_kind.Goals as goal

pub returns-clause-puts : goal.returns-clause-puts
returns-clause-puts c =
    let name = c.kind_name-length.ensures in
    puts-as name.name
    (puts-front c.kind_name-length.result.1 (omega arith)
    (omega (arith, name.within, name.long)) c.put-after_ten.ensures)
