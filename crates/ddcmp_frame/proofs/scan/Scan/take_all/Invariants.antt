use Rattle.std.proofs.Common.{◌≡◌, ◌-◌, length}
use Rattle.ddcmp_frame.specs.Inside.Scan.{IsSoundScan, view_of}
use Rattle.ddcmp_frame.proofs.PartLaws.{TakesPart}
use Rattle.ddcmp_frame.proofs.scan.Scan.take_all.Given as goal

abbrev pub invariant-loop-used : goal.invariant-loop-used
invariant-loop-used l = record {
  sound : IsSoundScan l.self;
  lent : l.self.lent ≡ 0;
  part : TakesPart (view_of l.initial.self) l.piece l.used (view_of l.self);
}

abbrev pub decreases-loop-used : goal.decreases-loop-used
decreases-loop-used l = length l.piece - l.used
