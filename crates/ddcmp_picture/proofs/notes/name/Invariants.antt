use Rattle.std.proofs.Common.{◌≡◌, drop}
use Rattle.ddcmp_picture.specs.Marks.{name_state}
use Rattle.ddcmp_picture.proofs.notes.name.Given as goal

-- so far no notice says it
abbrev pub invariant-loop-i : goal.invariant-loop-i
invariant-loop-i l = name_state (drop l.i l.notices) l.now ≡ name_state l.notices l.now
