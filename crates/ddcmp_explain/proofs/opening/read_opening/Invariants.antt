use Rattle.std.proofs.Common.{◌≡◌, ◌≤◌, ◌-◌, length, take}
use Rattle.std.specs.Io.KnownBytes.{Consumes}
use Rattle.ddcmp_io.specs.declared.device.Worst.TheVariants.{Fine}
use Rattle.ddcmp_explain.proofs.opening.read_opening.Given as goal

abbrev pub invariant-loop-count : goal.invariant-loop-count
invariant-loop-count g l = record {
  fine : g.R.Source.state l.reader ≡ Fine;
  room : length l.first ≡ 64;
  within : l.count ≤ 64;
  consumed : Consumes (g.R.Source.left l.fn.reader) (g.R.Source.left l.reader)
      (take l.count l.first);
}

abbrev pub decreases-loop-count : goal.decreases-loop-count
decreases-loop-count g l = 64 - l.count
