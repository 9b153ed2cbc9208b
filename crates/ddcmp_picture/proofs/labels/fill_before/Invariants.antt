use Rattle.std.proofs.Common.{◌≡◌, drop}
use Rattle.ddcmp_picture.specs.Labels.{after_fill}
use Rattle.ddcmp_picture.proofs.labels.fill_before.Given as goal

-- so far all was fill
abbrev pub invariant-loop-i : goal.invariant-loop-i
invariant-loop-i l = after_fill (drop l.i l.bytes) ≡ after_fill l.bytes
