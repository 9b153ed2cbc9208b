use Rattle.std.proofs.Common.{◌≡◌, ◌+◌, ◌≤◌, ◌++◌, false, Bool, List, ℕ, Option, drop}
use Rattle.ddcmp_io.specs.Written.{Output, output_of}
use Rattle.ddcmp_pair.specs.Run.{PairState}
use Rattle.ddcmp_io.specs.Carriages.{Carriage}
use Rattle.ddcmp_line.specs.ScriptEnds.{around}
use Rattle.ddcmp_line.specs.Inside.ScriptProgress.{HasDone, course, played}
use Rattle.ddcmp_line.proofs.player.Player.take.Given as goal

abbrev pub invariant-loop-i : goal.invariant-loop-i
invariant-loop-i g l = record {
  whole : g.C.Carrier.broken l.carrier ≡ false;
  seen : l.self.seen ≡ l.initial.self.seen;
  number : l.self.number ≤ l.initial.self.number + l.i;
  direct : g.C.Carrier.direct l.carrier ≡ g.C.Carrier.direct l.initial.carrier;
  so_far : (input rest : List ℕ) (p : PairState) (d : Bool) (log : Option (List Carriage))
      (start : Output) → g.C.Carrier.direct l.initial.carrier ≡ d
      → HasDone input (l.piece ++ rest)
      (played l.initial.self.line.items l.initial.self.number l.initial.self.stage.lines)
      (course start
      (output_of g.W.Sink.broken g.W.Sink.contents l.initial.writer l.initial.self.stage.page)
      (around p l.initial.pair d log (g.C.Carrier.told l.initial.carrier)))
      → HasDone input (drop l.i l.piece ++ rest)
      (played l.self.line.items l.self.number l.self.stage.lines)
      (course start (output_of g.W.Sink.broken g.W.Sink.contents l.writer l.self.stage.page)
      (around p l.pair d log (g.C.Carrier.told l.carrier)));
}
