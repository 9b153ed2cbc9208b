use Rattle.std.proofs.Common.{◌≡◌}
use Rattle.ddcmp_protocol_tests.proofs.windows.senders.fills_the_window.Given as goal

abbrev pub invariant-loop-message : goal.invariant-loop-message
invariant-loop-message g l = l.sender.longest ≡ 4
