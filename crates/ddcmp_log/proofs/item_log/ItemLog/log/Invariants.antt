use Rattle.std.proofs.Common.{◌≡◌, ◌+◌, ◌-◌, ◌≤◌, ◌++◌, ℕ, List, [], length, take}
use Rattle.ddcmp_log.specs.Inside.Telling.{Tells, output_in}
use Rattle.ddcmp_log.specs.Items.{HasTold}
use Rattle.ddcmp_log.proofs.item_log.ItemLog.log.Given as goal

abbrev pub invariant-loop-used : goal.invariant-loop-used
invariant-loop-used l = record {
  within : l.used ≤ length l.bytes;
  offset : l.self.frames.offset ≡ l.initial.self.frames.offset + l.used;
  max : l.self.frames.max ≡ l.initial.self.frames.max;
  notation : l.self.notation ≡ l.initial.self.notation;
  side : l.self.side ≡ l.initial.self.side;
  told : (told : List ℕ) → HasTold l.initial.self.frames l.initial.self.items told
      → HasTold l.self.frames l.self.items (told ++ take l.used l.bytes)
      × Tells l.initial.self.notation l.initial.self.side l.initial.self.frames.max l.stamp told
      (take l.used l.bytes) (output_in l.initial.text []) (output_in l.text l.page);
}

abbrev pub decreases-loop-used : goal.decreases-loop-used
decreases-loop-used l = length l.bytes - l.used
