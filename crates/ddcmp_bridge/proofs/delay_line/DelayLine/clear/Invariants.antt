use Rattle.std.proofs.Common.{◌≡◌, length}
use Rattle.ddcmp_bridge.proofs.delay_line.DelayLine.clear.Given as goal

abbrev pub invariant-loop : goal.invariant-loop
invariant-loop l = record {
  limit : l.self.limit ≡ l.initial.self.limit;
}

abbrev pub decreases-loop : goal.decreases-loop
decreases-loop l = length l.self.held
