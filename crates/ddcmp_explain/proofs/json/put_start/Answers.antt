use Rattle.ddcmp_explain.proofs.PuttingLaws.{puts-then}
use Rattle.ddcmp_explain.proofs.json.put_start.Goals as goal

pub returns-clause-puts : goal.returns-clause-puts
returns-clause-puts c =
    puts-then (puts-then c.put-at_offset.ensures c.put_number-after_offset.ensures.puts)
    c.put_slice.ensures
