use Rattle.ddcmp_io.proofs.WrittenLaws.{sends-then}
use Rattle.ddcmp_station.proofs.counts.write_counters.Goals as goal

pub returns : goal.returns
returns g c =
    sends-then
    (sends-then (sends-then c.write.ensures.sends c.write-2.ensures.sends)
    c.write_counts.ensures) c.write-3.ensures.sends
