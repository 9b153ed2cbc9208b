use Rattle.std.proofs.Common.{arith}
use Rattle.ddcmp_proto.proofs.Bounds.{messages_most}
use Rattle.ddcmp_proto.proofs.station.Station.held.Goals as goal

pub overflow_add-result : goal.overflow_add-result
overflow_add-result c =
    let s = c.bytes.ensures.sound in
    let most =
    messages_most _ _ _ s.out_stored.limit_max s.inbox_stored.limit_max s.out_stored.longest_max
    in
    omega (arith, c.bytes.ensures.within, c.kept.ensures.within, most, s.out_stored.longest_max)
