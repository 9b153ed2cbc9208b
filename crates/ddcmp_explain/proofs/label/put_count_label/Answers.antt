use Rattle.ddcmp_explain.proofs.PuttingLaws.{puts-then}
use Rattle.ddcmp_explain.proofs.label.put_count_label.Goals as goal

pub returns-clause-puts : goal.returns-clause-puts
returns-clause-puts c =
    puts-then (puts-then c.put-at_count.ensures c.put_number-after_count.ensures.puts)
    c.put_unit.ensures.puts
