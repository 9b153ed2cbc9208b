use Rattle.std.proofs.Common.{◌≡◌, ◌<◌, ◌≤◌, ℕ, length, slice_index_or, vec_capacity}
use Rattle.std.specs.VecDeque.{deque_capacity}
use Rattle.ddcmp_window.proofs.slot_store.SlotStore.new.Given as goal

abbrev pub invariant-loop-made : goal.invariant-loop-made
invariant-loop-made l = record {
  made : length l.slots.items ≡ l._made;
  room : l.limit ≤ deque_capacity l.slots;
  reserved : (i : ℕ) (slot : _) → i < l._made
      → l.longest ≤ vec_capacity (slice_index_or l.slots.items i slot);
}
