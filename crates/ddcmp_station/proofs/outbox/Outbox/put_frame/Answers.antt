use Rattle.std.proofs.Common.{◌≡◌, ◌+◌, ◌-◌, ◌≤◌, ◌++◌, ap, sym, ◌∙◌, drop, take, length, arith}
use Rattle.std.proofs.lemmas.List.{with_items_is}
use Rattle.ddcmp_station.specs.Driving.{frame_bytes}
use Rattle.ddcmp_station.specs.declared.outbox.TheConstants.{ROOM}
use Rattle.ddcmp_core.specs.Table.{next, next_frame}
use Rattle.ddcmp_station.proofs.OutboxLaws.{framed, framed_length}
use Rattle.ddcmp_station.proofs.outbox.Outbox.put_frame.Goals as goal

pub returns-in-Some-clause-bytes : goal.returns-in-Some-clause-bytes
returns-in-Some-clause-bytes c =
    let f = next_frame (next c.args.station.now.core.station) in
    let syn = c.args.station.now.syn in
    let s = c.self.inside.start in
    let e = c.self.inside.end in
    let k = c.in-Some.length in
    let held = c.deref_mut.result.now in
    let is = c.in-Some.ensures.length in
    let within : e ≤ length held = omega (arith, ap length c.deref_mut.ensures.value) in
    let items =
    with_items_is c.self.inside.bytes c.poll_after.new.bytes
    (c.poll_after.auto.bytes ∙ c.deref_mut.ensures.len) in
    let room : ROOM - (e + k) ≡ (ROOM - e) - length (frame_bytes syn f) =
    omega (arith, framed_length syn f k is) in
    rw (sym c.self.view_is) (λ i. record {
      waiting = (ap (λ ys. drop s (take (e + k) ys)) (items ∙ c.poll_after.ensures.bytes)
          ∙ framed syn f s e k held (drop e held) (omega arith) within is
          ∙ ap (λ ys. drop s (take e ys) ++ frame_bytes syn f) c.deref_mut.ensures.value) i;
      room = room i;
    })
