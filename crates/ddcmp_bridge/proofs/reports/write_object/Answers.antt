use Rattle.ddcmp_io.proofs.WrittenLaws.{sends-then}
use Rattle.ddcmp_bridge.proofs.reports.write_object.Goals as goal

pub returns : goal.returns
returns g c =
    sends-then (sends-then (sends-then (sends-then (sends-then (sends-then
    c.write.ensures.sends
    c.write-2.ensures.sends)
    c.write-3.ensures.sends)
    c.write_members.ensures)
    c.write-4.ensures.sends)
    c.write_members-2.ensures)
    c.write-5.ensures.sends
