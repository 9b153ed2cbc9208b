use Rattle.std.proofs.Common.{◌≡◌, ◌-◌, ◌<◌, ◌≤◌, ◌^◌, List, ℕ, Bool, Option, length, false}
use Rattle.std.specs.Io.KnownBytes.{Consumes}
use Rattle.ddcmp_io.specs.Written.{output_of}
use Rattle.ddcmp_io.specs.declared.device.Worst.TheVariants.{Fine}
use Rattle.ddcmp_pair.specs.Run.{PairState}
use Rattle.ddcmp_io.specs.Carriages.{Carriage}
use Rattle.ddcmp_line.specs.ScriptEnds.{around}
use Rattle.ddcmp_line.specs.Inside.ScriptProgress.{IsPlaying, course, fresh, played}
use Rattle.ddcmp_line.proofs.player.Player.take_all.Given as goal

abbrev pub invariant-loop-self : goal.invariant-loop-self
invariant-loop-self g l = record {
  fine : g.R.Source.state l.reader ≡ Fine;
  whole : g.C.Carrier.broken l.carrier ≡ false;
  shown : g.O.Sink.broken l.shown ≡ false;
  room : length l.piece ≡ 4096;
  below : l.self.seen < 2 ^ 64 - 1;
  number : l.self.number ≤ l.self.seen;
  direct : g.C.Carrier.direct l.carrier ≡ g.C.Carrier.direct l.initial.carrier;
  consumed : (seen : List ℕ) × (length seen ≡ l.self.seen)
      × Consumes (g.R.Source.left l.initial.reader) (g.R.Source.left l.reader) seen;
  so_far : (input : List ℕ) (p : PairState) (d : Bool) (log : Option (List Carriage))
      (sink : Option (List ℕ)) → g.C.Carrier.direct l.initial.carrier ≡ d
      → IsPlaying input (g.R.Source.left l.initial.reader)
      (played l.initial.self.line.items l.initial.self.number l.initial.self.stage.lines)
      (course (fresh sink)
      (output_of g.W.Sink.broken g.W.Sink.contents l.initial.writer l.initial.self.stage.page)
      (around p l.initial.pair d log (g.C.Carrier.told l.initial.carrier)))
      → IsPlaying input (g.R.Source.left l.reader)
      (played l.self.line.items l.self.number l.self.stage.lines)
      (course (fresh sink)
      (output_of g.W.Sink.broken g.W.Sink.contents l.writer l.self.stage.page)
      (around p l.pair d log (g.C.Carrier.told l.carrier)));
}

abbrev pub decreases-loop-self : goal.decreases-loop-self
decreases-loop-self g l = (2 ^ 64 - 1) - l.self.seen
