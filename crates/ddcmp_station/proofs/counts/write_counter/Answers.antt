use Rattle.ddcmp_io.proofs.WrittenLaws.{sends-then}
use Rattle.ddcmp_io.proofs.TextLaws.{sends-as}
use Rattle.ddcmp_station.proofs.counts.write_counter.Goals as goal

pub returns : goal.returns
returns g c =
    sends-then
    (sends-then
    (sends-then (sends-as c.before_name.ensures c.write.ensures.sends) c.write-2.ensures.sends)
    (sends-as c.before_value.ensures c.write-3.ensures.sends)) c.write_number.ensures
