use Rattle.ddcmp_io.proofs.WrittenLaws.{sends-behind, sends-then}
use Rattle.ddcmp_io.proofs.text.write_chunk.Goals as goal

pub returns : goal.returns
returns g c =
    sends-then c.make_room.ensures.sends (sends-behind _ _ _ _ _ c.append_hex.ensures)
