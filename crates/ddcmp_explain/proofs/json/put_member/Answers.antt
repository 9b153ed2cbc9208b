use Rattle.ddcmp_explain.proofs.PuttingLaws.{puts-then}
use Rattle.ddcmp_explain.proofs.json.put_member.Goals as goal

pub returns-clause-puts : goal.returns-clause-puts
returns-clause-puts c = puts-then c.put_slice-at_number.ensures c.put_byte.ensures.puts
