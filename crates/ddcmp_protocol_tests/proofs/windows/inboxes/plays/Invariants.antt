use Rattle.std.proofs.Common.{◌≡◌}
use Rattle.ddcmp_protocol_tests.proofs.windows.inboxes.plays.Given as goal

abbrev pub invariant-loop-i : goal.invariant-loop-i
invariant-loop-i g l = l.inbox.longest ≡ 4
