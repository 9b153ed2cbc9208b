use Rattle.std.proofs.Common.{◌≡◌, ◌≤◌, ◌-◌, [], take, length}
use Rattle.ddcmp_input.specs.Lengths.{after_bytes, entries_of_bytes}
use Rattle.ddcmp_input.proofs.lengths.Lengths.push_all.Given as goal

abbrev pub invariant-loop-used : goal.invariant-loop-used
invariant-loop-used l = record {
  within : l.used ≤ length l.piece;
  state : l.self ≡ after_bytes (take l.used l.piece) l.initial.self;
  none : entries_of_bytes (take l.used l.piece) l.initial.self ≡ [];
}

abbrev pub decreases-loop-used : goal.decreases-loop-used
decreases-loop-used l = length l.piece - l.used
