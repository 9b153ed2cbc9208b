use Rattle.ddcmp_explain.proofs.PuttingLaws.{puts-then}
use Rattle.ddcmp_explain.proofs.json.put_damaged.Goals as goal

pub returns-clause-puts : goal.returns-clause-puts
returns-clause-puts c = puts-then c.put-at_header.ensures c.put_header.ensures.puts
