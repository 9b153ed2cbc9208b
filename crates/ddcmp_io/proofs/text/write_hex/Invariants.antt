use Rattle.std.proofs.Common.{◌≤◌, ◌-◌, length, take}
use Rattle.hex.specs.Hex.{encode_lower}
use Rattle.ddcmp_io.specs.Written.{HandsOver, output_of}
use Rattle.ddcmp_io.proofs.text.write_hex.Given as goal

abbrev pub invariant-loop-at : goal.invariant-loop-at
invariant-loop-at g l = record {
  within : l.at ≤ length l.bytes;
  sent
      : HandsOver (output_of g.W.Sink.broken g.W.Sink.contents l.initial.writer l.initial.page)
      (output_of g.W.Sink.broken g.W.Sink.contents l.writer l.page)
      (encode_lower (take l.at l.bytes));
}

abbrev pub decreases-loop-at : goal.decreases-loop-at
decreases-loop-at g l = length l.bytes - l.at
