use Rattle.ddcmp_io.proofs.WrittenLaws.{sends-then}
use Rattle.ddcmp_station.proofs.counts.write_nak_counts.Goals as goal

pub returns : goal.returns
returns g c =
    sends-then
    (sends-then
    (sends-then
    (sends-then
    (sends-then
    (sends-then (sends-then c.write_reason.ensures c.write_reason-2.ensures)
    c.write_reason-3.ensures) c.write_reason-4.ensures) c.write_reason-5.ensures)
    c.write_reason-6.ensures) c.write_reason-7.ensures) c.write_reason-8.ensures
