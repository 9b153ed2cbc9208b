use Rattle.std.proofs.Common.{◌≡◌, false}
use Rattle.ddcmp_ports.specs.Holding.{held_of}
use Rattle.ddcmp_tap.proofs.LogLaws.{Going}
use Rattle.ddcmp_tap.proofs.running.run_tap.Given as goal

abbrev pub invariant-loop-pause : goal.invariant-loop-pause
invariant-loop-pause g l = record {
  whole : g.W.Sink.broken l.writer ≡ false;
  going : Going l.initial.tap.log l.tap (held_of l.buffers) (g.S.System.trace l.system)
      (g.W.Sink.contents l.initial.writer) (g.W.Sink.contents l.writer);
}
