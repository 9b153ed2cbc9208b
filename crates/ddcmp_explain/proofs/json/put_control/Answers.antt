use Rattle.std.proofs.Common.{ap}
use Rattle.ddcmp_frame.specs.declared.header.Header.TheVariants.{Control}
use Rattle.ddcmp_explain.specs.Json.{json_header}
use Rattle.ddcmp_explain.proofs.PuttingLaws.{puts-then, puts-as}
use Rattle.ddcmp_explain.proofs.json.put_control.Goals as goal

pub returns-clause-puts : goal.returns-clause-puts
returns-clause-puts c =
    puts-as (ap (λ h. json_header (Control h)) c.h.view_is)
    (puts-then (puts-then
    (puts-then (puts-as c.kind_value.ensures.value c.put_slice-after_kind.ensures)
    c.put_member-after_sub.ensures.puts)
    c.put_reason-after_reason.ensures.puts)
    c.put_fields.ensures.puts)
