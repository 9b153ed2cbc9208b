use Rattle.ddcmp_explain.proofs.PuttingLaws.{puts-then}
use Rattle.ddcmp_explain.proofs.text.put_labelled.Goals as goal

pub returns-clause-puts : goal.returns-clause-puts
returns-clause-puts g c =
    puts-then (puts-then c.put_number-after_offset.ensures.puts c.put-at_header.ensures)
    c.put_header.ensures.puts
