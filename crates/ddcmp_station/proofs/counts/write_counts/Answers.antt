use Rattle.ddcmp_io.proofs.WrittenLaws.{sends-then}
use Rattle.ddcmp_station.proofs.counts.write_counts.Goals as goal

pub returns : goal.returns
returns g c =
    sends-then
    (sends-then (sends-then c.write_nak_counts.ensures c.write_nak_counts-2.ensures)
    c.write_traffic.ensures) c.write_fault_counts.ensures
