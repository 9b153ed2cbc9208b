use Rattle.ddcmp_explain.proofs.PuttingLaws.{puts-then}
use Rattle.ddcmp_explain.proofs.label.put_data_label.Goals as goal

pub returns-clause-puts : goal.returns-clause-puts
returns-clause-puts c =
    puts-then (puts-then
    (puts-then (puts-then c.put-at_num.ensures c.put_byte-after_num.ensures.puts)
    c.put-at_resp.ensures)
    c.put_byte-after_resp.ensures.puts)
    c.put_count_label.ensures.puts
