use Rattle.ddcmp_explain.proofs.PuttingLaws.{puts-then, puts-as}
use Rattle.ddcmp_explain.proofs.text.put_fields.Goals as goal

pub returns-clause-puts : goal.returns-clause-puts
returns-clause-puts c =
    puts-then (puts-then
    (puts-then (puts-then
    (puts-then (puts-as c.flags_name.ensures c.put-at_resp.ensures)
    c.put_byte-after_resp.ensures.puts)
    c.put-at_num.ensures)
    c.put_byte-after_num.ensures.puts)
    c.put-at_addr.ensures)
    c.put_byte.ensures.puts
