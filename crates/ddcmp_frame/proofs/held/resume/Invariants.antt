use Rattle.std.proofs.Common.{◌≡◌, ◌≤◌, ◌-◌, drop, length}
use Rattle.ddcmp_frame.specs.Resume.{from_start}
use Rattle.ddcmp_frame.proofs.held.resume.Given as goal

abbrev pub invariant-loop-from : goal.invariant-loop-from
invariant-loop-from l = record {
  above : 1 ≤ l.from;
  within : l.from ≤ length l.buffer.items;
  same : from_start (drop l.from l.buffer.items) ≡ from_start (drop 1 l.buffer.items);
}

abbrev pub decreases-loop-from : goal.decreases-loop-from
decreases-loop-from l = length l.buffer.items - l.from
