use Rattle.std.proofs.Common.{◌≡◌, ◌≤◌, List, Some, false, ℕ}
use Rattle.ddcmp_io.specs.declared.device.Worst.TheVariants.{Fine}
use Rattle.ddcmp_explain.specs.Inside.Progress.{Progress}
use Rattle.ddcmp_explain.specs.Reads.{turns}
use Rattle.ddcmp_explain.proofs.explanation.explain_input.Given as goal

abbrev pub invariant-loop-count : goal.invariant-loop-count
invariant-loop-count g l = record {
  fine : g.R.Source.state l.reader ≡ Fine;
  whole : g.W.Sink.broken l.writer ≡ false;
  style : l.lines.style ≡ l.fn.style;
  room : l.lines.frames.offset ≤ l.input.seen;
  so_far : (input : List ℕ) → g.R.Source.left l.fn.reader ≡ Some input
      → Progress l.fn.written l.fn.frames.max (g.W.Sink.contents l.fn.writer) input
      (g.R.Source.left l.reader) l.input l.lines (g.W.Sink.broken l.writer)
      (g.W.Sink.contents l.writer);
}

abbrev pub decreases-loop-count : goal.decreases-loop-count
decreases-loop-count g l = turns l.input
