use Rattle.ddcmp_io.proofs.TextLaws.{sends-as}
use Rattle.ddcmp_explain.proofs.PuttingLaws.{puts-rest}
use Rattle.ddcmp_explain.proofs.discards.write_discarded.Goals as goal

pub returns : goal.returns
returns g c = sends-as (puts-rest c.args.part.from c.put_skipped-end.ensures.puts) c.write.ensures.sends
