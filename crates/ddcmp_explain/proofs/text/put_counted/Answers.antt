use Rattle.std.proofs.Common.{ap}
use Rattle.ddcmp_explain.specs.Text.{counted_text}
use Rattle.ddcmp_explain.proofs.PuttingLaws.{puts-then, puts-as}
use Rattle.ddcmp_explain.proofs.text.put_counted.Goals as goal

pub returns-clause-puts : goal.returns-clause-puts
returns-clause-puts c =
    puts-as (ap counted_text c.h.view_is)
    (puts-then (puts-then c.put-at_count.ensures c.put_number-after_count.ensures.puts)
    c.put_fields.ensures.puts)
