use Rattle.std.proofs.Common.{◌∙◌, ap, sym, codes}
use Rattle.ddcmp_streams.specs.Errors.{ErrorsView, stamp_text}
use Rattle.ddcmp_streams.proofs.ErrorsLaws.{begun, if-room, if-none, queues-as, queues-then}
use Rattle.ddcmp_streams.proofs.errors.Errors.begin_object.Goals as goal

pub returns-then-has_room-clause-begun : goal.returns-then-has_room-clause-begun
returns-then-has_room-clause-begun c =
    if-room _ _ _ (sym c.make_room-has_room.ensures.room ∙ c.if-has_room.true)
    (begun _ _ _ _ _ _ (c.make_room-has_room.ensures.noted c.if-has_room.true)
    (queues-then c.write_text.ensures
    (queues-as
    (ap (λ (e : ErrorsView). stamp_text (codes "\"time\":\"") (codes "\",") e.began e.now)
    c.write_text.ensures.stays)
    c.write_stamp.ensures)))

pub returns-else-has_room-clause-begun : goal.returns-else-has_room-clause-begun
returns-else-has_room-clause-begun c =
    if-none _ _ _ (sym c.make_room-has_room.ensures.room ∙ c.if-has_room.false)
    (c.make_room-has_room.ensures.left c.if-has_room.false)
