use Rattle.ddcmp_io.proofs.WrittenLaws.{sends-then}
use Rattle.ddcmp_log.proofs.line.write_reported.Goals as goal

pub returns : goal.returns
returns g c =
    sends-then (sends-then (sends-then (sends-then (sends-then (sends-then
    c.write_json_front.ensures c.write.ensures.sends)
    c.write_number.ensures)
    c.write-2.ensures.sends)
    c.write_number-2.ensures)
    c.write-3.ensures.sends)
    c.write_last.ensures
