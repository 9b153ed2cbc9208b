use Rattle.ddcmp_explain.proofs.PuttingLaws.{puts-then, puts-as}
use Rattle.ddcmp_explain.proofs.json.put_fields.Goals as goal

pub returns-clause-puts : goal.returns-clause-puts
returns-clause-puts c =
    puts-then (puts-then
    (puts-then (puts-as c.flag_members.ensures c.put-after_flags.ensures)
    c.put_member-after_resp.ensures.puts)
    c.put_member-after_num.ensures.puts)
    c.put_member.ensures.puts
