use Rattle.std.proofs.Common.{ap, ◌∙◌}
use Rattle.ddcmp_explain.proofs.PuttingLaws.{puts-as, puts-then}
use Rattle.ddcmp_explain.specs.Json.{reason_in_words}
use Rattle.ddcmp_explain.proofs.label.put_nak_label.Goals as goal

pub returns-clause-puts : goal.returns-clause-puts
returns-clause-puts c =
    puts-then (puts-then
    (puts-then (puts-then (puts-then c.put-at_sub.ensures c.put_byte-after_sub.ensures.puts)
    c.put-at_reason.ensures)
    (puts-as (c.reason_name.ensures.name ∙ ap reason_in_words c.of.ensures.reason)
    c.put_slice-after_reason.ensures))
    c.put-at_resp.ensures)
    c.put_byte.ensures.puts
