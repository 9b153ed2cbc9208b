use Rattle.ddcmp_io.proofs.TextLaws.{sends-as}
use Rattle.ddcmp_explain.proofs.PuttingLaws.{puts-rest}
use Rattle.ddcmp_explain.proofs.notation.write_last.Goals as goal

pub returns : goal.returns
returns g c = sends-as (puts-rest c.args.part.from c.put_totals-end.ensures.puts) c.write.ensures.sends
