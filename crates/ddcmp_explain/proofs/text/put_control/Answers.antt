use Rattle.std.proofs.Common.{ap}
use Rattle.ddcmp_frame.specs.declared.header.Header.TheVariants.{Control}
use Rattle.ddcmp_explain.specs.Text.{header_text}
use Rattle.ddcmp_explain.proofs.PuttingLaws.{puts-then, puts-as}
use Rattle.ddcmp_explain.proofs.text.put_control.Goals as goal

pub returns-clause-puts : goal.returns-clause-puts
returns-clause-puts c =
    puts-as (ap (λ h. header_text (Control h)) c.h.view_is)
    (puts-then (puts-then c.put_kind-at_sub.ensures.puts c.put_byte-after_sub.ensures.puts)
    c.put_fields.ensures.puts)
