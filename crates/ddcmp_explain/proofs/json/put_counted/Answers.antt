use Rattle.std.proofs.Common.{ap, ◌++◌}
use Rattle.ddcmp_explain.specs.Json.{json_counted}
use Rattle.ddcmp_explain.proofs.PuttingLaws.{puts-then, puts-as}
use Rattle.ddcmp_explain.proofs.json.put_counted.Goals as goal

pub returns-clause-puts : goal.returns-clause-puts
returns-clause-puts g c =
    puts-as (ap (λ fields. c.args.name.now ++ json_counted fields) c.h.view_is)
    (puts-then c.put-after_name.ensures
    (puts-then (puts-then c.put-at_count.ensures c.put_number-after_count.ensures.puts)
    c.put_fields.ensures.puts))
