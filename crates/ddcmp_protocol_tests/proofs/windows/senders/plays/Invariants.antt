use Rattle.std.proofs.Common.{◌≡◌}
use Rattle.ddcmp_protocol_tests.proofs.windows.senders.plays.Given as goal

abbrev pub invariant-loop-i : goal.invariant-loop-i
invariant-loop-i g l = l.sender.longest ≡ l.fn.sender.longest
