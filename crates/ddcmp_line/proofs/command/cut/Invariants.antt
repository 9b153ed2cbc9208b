use Rattle.std.proofs.Common.{◌≢◌, ◌<◌, ℕ, get_or}
use Rattle.ddcmp_line.proofs.command.cut.Given as goal

abbrev pub invariant-loop-at : goal.invariant-loop-at
invariant-loop-at l = (i : ℕ) → i < l.at → get_or l.line i 0 ≢ 32
