use Rattle.std.proofs.Common.{◌≡◌, drop}
use Rattle.ddcmp_explain.specs.Detection.{sight_from}
use Rattle.ddcmp_explain.specs.declared.detection.Sight.TheVariants.{Start}
use Rattle.ddcmp_explain.proofs.detection.detect.Given as goal

-- what the rest makes of it is what the whole does
abbrev pub invariant-loop-byte : goal.invariant-loop-byte
invariant-loop-byte l = record {
  sight : sight_from Start l.first ≡ sight_from l.sight (drop l.byte-index l.first);
}
