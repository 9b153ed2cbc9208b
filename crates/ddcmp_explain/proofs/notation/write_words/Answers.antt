use Rattle.ddcmp_io.proofs.TextLaws.{sends-as}
use Rattle.ddcmp_explain.proofs.PuttingLaws.{puts-whole}
use Rattle.ddcmp_explain.proofs.notation.write_words.Goals as goal

pub returns : goal.returns
returns g c = sends-as (puts-whole c.put_item-end.ensures.puts) c.write.ensures.sends
