use Rattle.std.proofs.Common.{◌≡◌}
use Rattle.ddcmp_device.proofs.opener.Opener.connect.Given as goal

-- Trying one address after the other leaves the listener alone.
abbrev pub invariant-loop-address : goal.invariant-loop-address
invariant-loop-address g l = l.self.listener ≡ l.fn.self.listener
