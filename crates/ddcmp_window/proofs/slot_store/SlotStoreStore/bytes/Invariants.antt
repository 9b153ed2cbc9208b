use Rattle.std.proofs.Common.{◌≡◌, ◌≤◌, ◌*◌, length, map, take, sum_by}
use Rattle.ddcmp_window.proofs.slot_store.SlotStoreStore.bytes.Given as goal

abbrev pub invariant-loop-i : goal.invariant-loop-i
invariant-loop-i l = record {
  value : l.total ≡ sum_by length (map (λ slot. slot.items) (take l.i l.self.slots.items));
  bound : l.total ≤ l.i * 16383;
}
