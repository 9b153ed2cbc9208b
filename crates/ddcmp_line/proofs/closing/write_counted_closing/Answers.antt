use Rattle.ddcmp_io.proofs.WrittenLaws.{sends-then}
use Rattle.ddcmp_line.proofs.closing.write_counted_closing.Goals as goal

pub returns : goal.returns
returns g c = sends-then c.write_both_counters.ensures c.write_last_line.ensures
