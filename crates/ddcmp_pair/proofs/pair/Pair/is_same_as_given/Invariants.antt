use Rattle.std.proofs.Common.{◌≡◌, take}
use Rattle.ddcmp_pair.specs.Run.{at, handed_up}
use Rattle.ddcmp_pair.proofs.pair.Pair.is_same_as_given.Given as goal

abbrev pub invariant-loop-i : goal.invariant-loop-i
invariant-loop-i l = take l.i (at l.from l.self).given ≡ take l.i (handed_up (at l.to l.self))
