use Rattle.std.proofs.Common.{arith, ◌≡◌, ◌+◌, ◌-◌}
use Rattle.ddcmp_window.specs.Inside.Fronts.{length-front}
use Rattle.ddcmp_window.proofs.Fronts.{front-rotated}
use Rattle.ddcmp_window.proofs.slot_store.SlotStoreStore.drop_front.Goals as goal

pub returns-clause-messages : goal.returns-clause-messages
returns-clause-messages c =
    let slots = c.args.self.now.slots.items in
    let len = c.args.self.now.len in
    let kept = length-front (λ slot. slot.items) len slots (omega arith) in
    let total : c.args.n + (len - c.args.n) ≡ len = omega arith in
    rw c.rotate_left.ensures.items
    (front-rotated (λ slot. slot.items) c.args.n (len - c.args.n) len slots total (omega arith))
