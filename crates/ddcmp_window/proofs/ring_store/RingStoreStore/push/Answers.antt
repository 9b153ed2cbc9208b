use Rattle.std.proofs.Common.{ℕ, ◌<◌, ◌≤◌, length, arith}
use Rattle.std.proofs.lemmas.List.{length-append, length_push}
use Rattle.std.proofs.lemmas.List.Elements.{All-push}
use Rattle.std.proofs.lemmas.List.Sums.{sum_by_push}
use Rattle.ddcmp_window.specs.Inside.Cuts.{length-cut}
use Rattle.ddcmp_window.proofs.Cuts.{cut-push}
use Rattle.ddcmp_window.proofs.Rings.{keep_last-push, keep_last-message}
use Rattle.ddcmp_window.proofs.ring_store.RingStoreStore.push.Goals as goal

pub invariant_of-self : goal.invariant_of-self
invariant_of-self c =
    let store = c.args.self.now in
    let lengths = store.lengths.items in
    let bytes = store.ring.items in
    let message = c.args.message.now in
    let room : length lengths < store.limit = omega (arith, length-cut lengths bytes) in
    let more =
    keep_last-push store.lengths.capacity store.limit lengths (length message)
    store.room_for_lengths room in
    let longer =
    keep_last-message store.ring.capacity store.limit store.longest lengths bytes message
    store.room_for_bytes store.no_other_bytes store.lengths_in_range room
    c.requires.not_too_long in
    let range =
    All-push (λ n. (1 ≤ n) × (n ≤ store.longest)) lengths (length message)
    store.lengths_in_range (c.requires.not_empty, c.requires.not_too_long) in
    record {
      limit_in_range = store.limit_in_range;
      longest_in_range = store.longest_in_range;
      within_limit =
          rw (c.push_back.ensures.items, more)
          (omega (arith, length_push lengths (length message)));
      lengths_in_range = rw (c.push_back.ensures.items, more) range;
      no_other_bytes = rw (c.push_back.ensures.items, c.extend_from_slice.ensures, more, longer)
          (omega (
            arith,
            sum_by_push (λ (n : ℕ). n) lengths (length message),
            length-append bytes message,
          ));
      room_for_lengths = rw c.push_back.ensures.items store.room_for_lengths;
      room_for_bytes = rw c.extend_from_slice.ensures store.room_for_bytes;
    }

pub returns-clause-messages : goal.returns-clause-messages
returns-clause-messages c =
    let store = c.args.self.now in
    let lengths = store.lengths.items in
    let bytes = store.ring.items in
    let message = c.args.message.now in
    let room : length lengths < store.limit = omega (arith, length-cut lengths bytes) in
    let more =
    keep_last-push store.lengths.capacity store.limit lengths (length message)
    store.room_for_lengths room in
    let longer =
    keep_last-message store.ring.capacity store.limit store.longest lengths bytes message
    store.room_for_bytes store.no_other_bytes store.lengths_in_range room
    c.requires.not_too_long in
    rw (c.push_back.ensures.items, c.extend_from_slice.ensures, more, longer)
    (cut-push lengths bytes message store.no_other_bytes)
