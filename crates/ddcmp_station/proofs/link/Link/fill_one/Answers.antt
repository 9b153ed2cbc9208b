use Rattle.std.proofs.Common.{sym, ◌∙◌, arith}
use Rattle.ddcmp_core.specs.Table.{next, next_frame}
use Rattle.ddcmp_station.proofs.OutboxLaws.{less_room}
use Rattle.ddcmp_station.proofs.link.Link.fill_one.Goals as goal

pub returns-clause-less : goal.returns-clause-less
returns-clause-less c given =
    rw (c.put_frame.ensures.bytes, sym c.self.view_is)
    (less_room c.self.inside.station.syn (next_frame (next c.self.inside.station.core.station))
    c.self.inside.outbox.room (sym c.put_frame.ensures.answer ∙ given)
    (omega (arith, c.room.ensures.value, c.frame_room.ensures, c.if-room-frame_room.false)))
