use Rattle.std.proofs.Common.{◌≤◌}
use Rattle.ddcmp_picture.specs.declared.caption.TheConstants.{WIDTH}
use Rattle.ddcmp_picture.proofs.caption.line_end.Given as goal

-- no byte so far is past the width
abbrev pub invariant-loop-at : goal.invariant-loop-at
invariant-loop-at l = record { within : l.at ≤ WIDTH; blank : l.blank ≤ l.at }
