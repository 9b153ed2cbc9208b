use Rattle.std.proofs.Common.{arith}
use Rattle.ddcmp_explain.proofs.PuttingLaws.{puts-front, puts-as}
use Rattle.ddcmp_explain.proofs.put.put_byte.Goals as goal

pub returns-clause-puts : goal.returns-clause-puts
returns-clause-puts c =
    let text = c.byte_text-length in
    puts-as text.ensures.digits
    (puts-front text.result.1 (omega arith) (omega (arith, text.ensures.within))
    c.put-after_three.ensures)
