use Rattle.std.proofs.Common.{ap, sym}
use Rattle.ddcmp_explain.specs.Text.{header_text}
use Rattle.ddcmp_explain.proofs.PuttingLaws.{puts-then, puts-as}
use Rattle.ddcmp_explain.proofs.text.put_header.Goals as goal

pub returns-in-Data-clause-puts : goal.returns-in-Data-clause-puts
returns-in-Data-clause-puts c =
    puts-as (ap header_text (sym c.in-Data.is))
    (puts-then c.put-after_name.ensures c.put_counted.ensures.puts)

pub returns-in-Maint-clause-puts : goal.returns-in-Maint-clause-puts
returns-in-Maint-clause-puts c =
    puts-as (ap header_text (sym c.in-Maint.is))
    (puts-then c.put-after_name-in-Maint.ensures c.put_counted-in-Maint.ensures.puts)

pub returns-in-Control-clause-puts : goal.returns-in-Control-clause-puts
returns-in-Control-clause-puts c =
    puts-as (ap header_text (sym c.in-Control.is)) c.put_control.ensures.puts
