use Rattle.std.proofs.Common.{◌∙◌, sym}
use Rattle.ddcmp_streams.proofs.ErrorsLaws.{begun, if-room, if-none}
use Rattle.ddcmp_streams.proofs.errors.Errors.begin_line.Goals as goal

pub returns-then-has_room-clause-begun : goal.returns-then-has_room-clause-begun
returns-then-has_room-clause-begun c =
    if-room _ _ _ (sym c.make_room-has_room.ensures.room ∙ c.if-has_room.true)
    (begun _ _ _ _ _ _ (c.make_room-has_room.ensures.noted c.if-has_room.true)
    c.write_stamp.ensures)

pub returns-else-has_room-clause-begun : goal.returns-else-has_room-clause-begun
returns-else-has_room-clause-begun c =
    if-none _ _ _ (sym c.make_room-has_room.ensures.room ∙ c.if-has_room.false)
    (c.make_room-has_room.ensures.left c.if-has_room.false)
