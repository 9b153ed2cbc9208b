use Rattle.std.proofs.Common.{◌≡◌, false}
use Rattle.ddcmp_tap.proofs.InTurnLaws.{Whole}
use Rattle.ddcmp_tap.proofs.connections.tap_again.Given as goal

abbrev pub invariant-loop-turn : goal.invariant-loop-turn
invariant-loop-turn g l = record {
  whole : g.W.Sink.broken l.writer ≡ false;
  wrote : Whole l.log.notation l.log.times l.log.max (g.W.Sink.contents l.initial.writer)
      (g.W.Sink.contents l.writer);
}
