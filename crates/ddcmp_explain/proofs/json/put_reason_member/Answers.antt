use Rattle.ddcmp_explain.proofs.PuttingLaws.{puts-as, puts-then}
use Rattle.ddcmp_explain.proofs.json.put_reason_member.Goals as goal

pub returns-clause-puts : goal.returns-clause-puts
returns-clause-puts c =
    puts-then (puts-then c.put-at_name.ensures
    (puts-as c.reason_name.ensures.name c.put_slice-after_name.ensures))
    c.put.ensures
