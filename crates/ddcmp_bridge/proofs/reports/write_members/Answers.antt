use Rattle.ddcmp_io.proofs.WrittenLaws.{sends-then}
use Rattle.ddcmp_bridge.proofs.reports.write_members.Goals as goal

pub returns : goal.returns
returns g c =
    sends-then (sends-then (sends-then (sends-then (sends-then (sends-then (sends-then
    (sends-then (sends-then c.write.ensures.sends
    c.write_number.ensures)
    c.write-2.ensures.sends)
    c.write_number-2.ensures)
    c.write-3.ensures.sends)
    c.write_number-3.ensures)
    c.write-4.ensures.sends)
    c.write_number-4.ensures)
    c.write-5.ensures.sends)
    c.write_number-5.ensures
