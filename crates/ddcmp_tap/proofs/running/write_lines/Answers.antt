use Rattle.std.proofs.Common.{sym}
use Rattle.ddcmp_tap.proofs.HeadLaws.{part-whole}
use Rattle.ddcmp_tap.proofs.running.write_lines.Goals as goal

pub returns-else-was_logged-clause-wrote : goal.returns-else-was_logged-clause-wrote
returns-else-was_logged-clause-wrote g c = rw (sym c.text.ensures) (part-whole _ _ _ c.in-Ok.ensures.written)
