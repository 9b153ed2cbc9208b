use Rattle.std.proofs.Common.{◌≡◌, take}
use Rattle.ddcmp_pair.specs.Run.{run}
use Rattle.ddcmp_pair.proofs.runner.play.Given as goal

abbrev pub invariant-loop-done : goal.invariant-loop-done
invariant-loop-done l = l.pair ≡ run (take l.done l.events) l.initial.pair
