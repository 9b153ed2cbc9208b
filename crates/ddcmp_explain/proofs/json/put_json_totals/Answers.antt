use Rattle.ddcmp_explain.proofs.PuttingLaws.{puts-then}
use Rattle.ddcmp_explain.proofs.json.put_json_totals.Goals as goal

pub returns-clause-puts : goal.returns-clause-puts
returns-clause-puts c =
    puts-then (puts-then
    (puts-then (puts-then c.put-at_items.ensures c.put_number-after_items.ensures.puts)
    (puts-then c.put-at_bytes.ensures c.put_number-after_bytes.ensures.puts))
    (puts-then c.put-at_open.ensures c.put_number-after_open.ensures.puts))
    c.put.ensures
