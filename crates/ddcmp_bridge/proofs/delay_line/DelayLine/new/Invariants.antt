use Rattle.std.proofs.Common.{◌≡◌, ◌≤◌, All, length, vec_capacity}
use Rattle.ddcmp_bridge.specs.declared.relay.TheConstants.{FRAME}
use Rattle.ddcmp_bridge.proofs.delay_line.DelayLine.new.Given as goal

abbrev pub invariant-loop-made : goal.invariant-loop-made
invariant-loop-made l = record {
  made : length l.spare.items ≡ l._made;
  room : l.limit ≤ vec_capacity l.spare;
  reserved : All (λ b. FRAME ≤ vec_capacity b) l.spare.items;
}
