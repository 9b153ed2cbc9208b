use Rattle.ddcmp_io.proofs.WrittenLaws.{sends-then}
use Rattle.ddcmp_station.proofs.counts.write_traffic.Goals as goal

pub returns : goal.returns
returns g c =
    sends-then
    (sends-then
    (sends-then
    (sends-then
    (sends-then
    (sends-then (sends-then c.write_counter.ensures c.write_counter-2.ensures)
    c.write_counter-3.ensures) c.write_counter-4.ensures) c.write_counter-5.ensures)
    c.write_counter-6.ensures) c.write_counter-7.ensures) c.write_counter-8.ensures
