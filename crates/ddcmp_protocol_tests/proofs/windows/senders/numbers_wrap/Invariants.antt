use Rattle.std.proofs.Common.{◌≡◌}
use Rattle.ddcmp_protocol_tests.proofs.windows.senders.numbers_wrap.Given as goal

abbrev pub invariant-loop-round : goal.invariant-loop-round
invariant-loop-round g l = l.sender.longest ≡ 4
